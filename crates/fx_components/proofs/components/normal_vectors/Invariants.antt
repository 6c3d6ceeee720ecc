use Rattle.std.proofs.Common.{◌≡◌, cond, drop}
use Rattle.std.specs.List.{list_any}
use Rattle.fx_designs.specs.Components.{normal_vectors}
use Rattle.fx_components.proofs.Enumerating.{behind_zeros}
use Rattle.fx_components.proofs.components.normal_vectors.Given as goal

abbrev pub invariant-loop-i : goal.invariant-loop-i
invariant-loop-i l = record {
  vectors : l.vectors ≡ behind_zeros l.i (normal_vectors l.q (drop l.i l.support));
  bound : l.bound ≡ cond (list_any (λ b. b) (drop l.i l.support)) l.q 2;
}

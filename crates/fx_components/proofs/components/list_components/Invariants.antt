use Rattle.std.proofs.Common.{◌≡◌}
use Rattle.fx_designs.specs.Components.{components}
use Rattle.fx_components.proofs.components.list_components.Given as goal

abbrev pub invariant-loop-k : goal.invariant-loop-k
invariant-loop-k l = l.found ≡ components l.q l.s l.k

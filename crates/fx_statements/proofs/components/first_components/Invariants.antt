use Rattle.std.proofs.Common.{◌≡◌, drop}
use Rattle.fx_statements.specs.Components.{first_components}
use Rattle.fx_statements.proofs.components.first_components.Given as goal

abbrev pub invariant-loop-w : goal.invariant-loop-w
invariant-loop-w l = first_components l.phrase ≡ first_components (drop l.w-index l.phrase)

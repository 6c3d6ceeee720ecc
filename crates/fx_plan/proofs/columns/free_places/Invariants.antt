use Rattle.std.proofs.Common.{◌≡◌}
use Rattle.fx_outputs.specs.DerivedFactors.{free_places}
use Rattle.fx_plan.proofs.columns.free_places.Given as goal

abbrev pub invariant-loop-i : goal.invariant-loop-i
invariant-loop-i l = l.free ≡ free_places l.i l.derived

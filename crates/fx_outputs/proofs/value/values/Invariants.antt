use Rattle.std.proofs.Common.{◌≡◌, ◌++◌, drop}
use Rattle.fx_outputs.specs.Values.{values_from, values_of}
use Rattle.fx_outputs.proofs.value.values.Given as goal

abbrev pub invariant-loop-w : goal.invariant-loop-w
invariant-loop-w l = values_of l.rest ≡ l.values ++ values_from l.signed (drop l.w-index l.w-items)

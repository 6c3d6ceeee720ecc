use Rattle.std.proofs.Common.{◌≡◌, take}
use Rattle.fx_plan.proofs.columns.copied.Given as goal

abbrev pub invariant-loop-name : goal.invariant-loop-name
invariant-loop-name l = l.values.items ≡ take l.name-index l.names

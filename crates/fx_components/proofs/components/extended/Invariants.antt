use Rattle.std.proofs.Common.{◌≡◌, take}
use Rattle.fx_components.proofs.components.extended.Given as goal

abbrev pub invariant-loop-b : goal.invariant-loop-b
invariant-loop-b l = l.longer.items ≡ take l.b-index l.set.items

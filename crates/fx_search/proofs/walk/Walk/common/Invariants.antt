use Rattle.std.proofs.Common.{◌≡◌, take}
use Rattle.fx_search.proofs.walk.Walk.common.Given as goal

abbrev pub invariant-loop-i : goal.invariant-loop-i
invariant-loop-i g l = take l.i l.self.prefix.rows ≡ take l.i l.other.rows

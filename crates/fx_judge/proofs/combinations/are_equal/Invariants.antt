use Rattle.std.proofs.Common.{◌<◌, get_or, ℕ, ◌≡◌}
use Rattle.fx_judge.proofs.combinations.are_equal.Given as goal

abbrev pub invariant-loop-y : goal.invariant-loop-y
invariant-loop-y l = (z : ℕ) → z < l.y → get_or l.counts z 0 ≡ get_or l.counts 0 0

use Rattle.std.proofs.Common.{◌≡◌, length}
use Rattle.mathematics_tests.proofs.foldovers.vector_of.Given as goal

abbrev pub invariant-loop-i : goal.invariant-loop-i
invariant-loop-i g l = length l.vector ≡ length l.codes

use Rattle.std.proofs.Common.{◌≡◌}
use Rattle.mathematics_tests.proofs.derived.are_balanced.Given as goal

abbrev pub invariant-loop-row : goal.invariant-loop-row
invariant-loop-row g l = l.matrix.shape ≡ l.initial.matrix.shape

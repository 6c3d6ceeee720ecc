use Rattle.std.proofs.Common.{◌≡◌}
use Rattle.mathematics_tests.proofs.runs.twelve_runs.Given as goal

abbrev pub invariant-loop-number : goal.invariant-loop-number
invariant-loop-number g l = l.runs.shape ≡ l.initial.runs.shape

use Rattle.std.proofs.Common.{◌≡◌}
use Rattle.search_tests.proofs.questions.prefix_of.Given as goal

abbrev pub invariant-loop-row : goal.invariant-loop-row
invariant-loop-row g l = l.prefix.shape ≡ l.initial.prefix.shape

use Rattle.std.proofs.Common.{◌-◌}
use Rattle.fx_statements.specs.Steps.{meaning_of}
use Rattle.fx_statements.specs.Questions.{highest}
use Rattle.fx_answer.specs.Asking.{HaveComeTo, IsTurnOf, questions_below}
use Rattle.fx_answer.proofs.answering.answer.Given as goal

abbrev pub invariant-loop-finished : goal.invariant-loop-finished
invariant-loop-finished g l = let step = meaning_of l.step in record {
  turn : IsTurnOf step l.n;
  come : HaveComeTo step (questions_below step l.n) l.finished;
}

-- the numbers that are left
abbrev pub decreases-loop-finished : goal.decreases-loop-finished
decreases-loop-finished g l = highest (meaning_of l.step) l.step.settings.size - l.n

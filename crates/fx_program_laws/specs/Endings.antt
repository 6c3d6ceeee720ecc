-- How a step ends, and what is given for it.
use Rattle.std.specs.Prelude.{ℕ, ◌≡◌, List}
use Rattle.fx_statements.specs.Questions.{Conclusion, outcome_of}
use Rattle.fx_statements.specs.Steps.{Meaning}
use Rattle.fx_answer.specs.Books.{books_of}
use Rattle.fx_program.specs.Output.{outcome_given, step_output}
use Rattle.fx_program.specs.Plans.{AskedView}

-- this is the outcome of a step, and what is given for the step is by it
pub record EndsWith (seed number : ℕ) (earlier : List AskedView) (step : Meaning) (outcome : Conclusion) : Type 0 where
  pub outcome_is : outcome_of step ≡ outcome
  pub output : step_output seed number earlier step ≡ outcome_given seed number earlier step (books_of step) outcome

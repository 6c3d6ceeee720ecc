-- Where the asking of a step's questions is.
use Rattle.std.specs.Prelude.{ℕ, ◌≡◌, ◌≤◌, ◌+◌, ◌-◌, List, [], ◌∷◌, ◌++◌, map, Option, None, find}
use Rattle.std.specs.List.{range_with_len}
use Rattle.fx_designs.specs.Problems.{Problem}
use Rattle.fx_statements.specs.Steps.{Meaning}
use Rattle.fx_statements.specs.Questions.{Turn, asked, highest, is_last, last_found, lowest, nodes_of, passes}
use Rattle.fx_statements.specs.Questions.{question_for, questions_of, reached_by, turns, until, up_to}
use Rattle.fx_answer.specs.Books.{books_from}
use Rattle.fx_answer.specs.Outcomes.{IsOutcome}
use Rattle.fx_answer.specs.Standing.{IsOf, IsWhole, StandsFor}
use Rattle.fx_answer.specs.declared.answering.Finished.{Finished}
use Rattle.fx_answer.specs.declared.answering.Course.{Course}
use Rattle.fx_answer.specs.declared.answering.Course.TheVariants.{Ends, GoesOn}

-- the questions of a step for the numbers below n
abbrev pub questions_below : Meaning → ℕ → List Problem
questions_below step n =
    let low = lowest step step.settings.size in map (question_for step) (range_with_len low (n - low))

-- those for the numbers above n
abbrev pub questions_above : Meaning → ℕ → List Problem
questions_above step n = map (question_for step) (range_with_len (n + 1) (highest step step.settings.size - n))

-- of the questions for n and above those that are asked, if that for n is
abbrev pub asked_from : Meaning → ℕ → List Problem
asked_from step n = up_to (is_last (until step.settings.size)) (question_for step n ∷ questions_above step n)

-- the first of their turns with which the budget is passed
abbrev pub ended_from : Meaning → ℕ → Option Turn
ended_from step n = find (passes step.settings.budget) (turns (questions_below step n) (asked_from step n))

-- the question for n is asked, after all those below, whose nodes are within the budget
pub record IsTurnOf (step : Meaning) (n : ℕ) : Type 0 where
  pub low : lowest step step.settings.size ≤ n
  pub high : n ≤ highest step step.settings.size
  pub all : asked (questions_of step) ≡ questions_below step n ++ asked_from step n
  pub end : find (passes step.settings.budget) (turns [] (asked (questions_of step))) ≡ ended_from step n

-- what these questions of a step have come to, which are finished
pub record HaveComeTo (step : Meaning) (ps : List Problem) (finished : Finished) : Type 0 where
  pub nodes : finished.nodes ≡ nodes_of ps
  pub within : finished.nodes ≤ step.settings.budget
  pub found : StandsFor finished.found (last_found None ps)
  pub of_step : IsOf step finished.found
  pub whole : IsWhole finished.found
  pub reached : finished.reached ≡ reached_by (last_found None ps)
  pub books : finished.books ≡ books_from 1 ps

-- where the question for n leads
abbrev pub LeadsTo : Meaning → ℕ → Course → Type 0
LeadsTo step n (Ends outcome) = IsOutcome step outcome
LeadsTo step n (GoesOn finished) =
    IsTurnOf step (n + 1) × HaveComeTo step (questions_below step (n + 1)) finished

-- The questions that a step asks, and the outcome that they lead to within the step's budget.
use Rattle.std.specs.Prelude.{ℕ, ◌+◌, ◌-◌, nat_lt, not, ◌&&◌, max, Bool, true, false, if◌then◌else◌, List, [], ◌∷◌}
use Rattle.std.specs.Prelude.{◌++◌, map}
use Rattle.std.specs.Prelude.{length, sum_by, Option, Some, None, is_some, find}
use Rattle.std.specs.List.{range_with_len}
use Rattle.fx_designs.specs.Problems.{Dimensions, Problem, Requirement, AtResolution, ForEffects}
use Rattle.fx_designs.specs.Answers.{answer}
use Rattle.fx_designs.specs.Nodes.{nodes}
use Rattle.fx_designs.specs.Jobs.{carried}
use Rattle.fx_designs.specs.Outcomes.{Ending, Design, NoDesign, BudgetEnded}
use Rattle.fx_settings.specs.declared.settings.Size.{Size}
use Rattle.fx_settings.specs.declared.settings.Size.TheVariants.{Runs, Minimum}
use Rattle.fx_settings.specs.declared.settings.Blocks.{Blocks}
use Rattle.fx_settings.specs.declared.settings.Blocks.TheVariants as blocks
use Rattle.fx_settings.specs.declared.settings.StepSettings.{StepSettings}
use Rattle.fx_settings.specs.Models.{is_highest}
use Rattle.fx_settings.specs.Powers.{greatest}
use Rattle.fx_settings.specs.Valid.{has_most}
use Rattle.fx_vectors.specs.Shape.{dimensions_of}
use Rattle.fx_statements.specs.declared.outcome.Outcome.{Outcome}
use Rattle.fx_statements.specs.Outcomes.{ending_in}
use Rattle.fx_statements.specs.Steps.{Meaning}

-- when no further question is asked: after the first that has an answer, or after the first that has none
pub data Until : Type 0 where
  Answered : Until
  Unanswered : Until

-- at least one question, in order, and when the asking ends before the last
pub record Questions : Type 0 where
  pub first : Problem
  pub others : List Problem
  pub until : Until

-- the m of q^m runs: that of a fixed size, or n where the least size is wanted
abbrev pub run_factors : Size → ℕ → ℕ
run_factors (Runs m) n = m
run_factors Minimum n = n

-- the number of block factors in q^m runs: a fixed one, that of blocks of q^k runs, or n where as many blocks as can be
-- are wanted
abbrev pub block_factors : Blocks → ℕ → ℕ → ℕ
block_factors blocks.Without m n = 0
block_factors (blocks.Factors t) m n = t
block_factors (blocks.PerBlock k) m n = m - k
block_factors blocks.Most m n = n

-- whether the resolution is free: where the highest is asked for, but for a least pattern, since of the designs with
-- one each has the highest resolution
abbrev pub seeks_highest : StepSettings → Bool
seeks_highest settings = is_highest settings.criterion && not settings.least

-- what is required of one design: the resolution n where that is free
abbrev pub requirement_for : Meaning → ℕ → Requirement
requirement_for step n = if seeks_highest step.settings then AtResolution n else step.requirement

-- the question of a step for the number n: of run factors, of block factors or of the resolution, whichever the step
-- leaves free
abbrev pub question_for : Meaning → ℕ → Problem
question_for step n =
    let m = run_factors step.settings.size n in
    record {
      dimensions =
          record { q = step.settings.q; m = m; s = length step.factors; t = block_factors step.settings.blocks m n };
      requirement = requirement_for step n;
      least = step.settings.least;
    }

-- the least m with which there is more than one run and, in blocks of q^k runs, more than one block
abbrev pub least_exponent : Blocks → ℕ
least_exponent blocks.Without = 1
least_exponent (blocks.Factors t) = 1
least_exponent (blocks.PerBlock k) = k + 1
least_exponent blocks.Most = 1

-- the first number for which a step asks: a size, a number of block factors, a resolution
abbrev pub lowest : Meaning → Size → ℕ
lowest step Minimum = least_exponent step.settings.blocks
lowest step (Runs m) = if has_most step.settings.blocks then 1 else 3

-- the last: the greatest size; as many block factors as run factors; the resolution of a design without defining words.
-- A step that leaves nothing free asks one question
abbrev pub highest : Meaning → Size → ℕ
highest step Minimum = greatest step.settings.q
highest step (Runs m) =
    (if has_most step.settings.blocks
    then m
    else (if seeks_highest step.settings then max 3 (length step.factors + 1) else 3))

-- with what the asking ends: for the least size with the first that has an answer, else with the first that has none
abbrev pub until : Size → Until
until Minimum = Answered
until (Runs m) = Unanswered

-- the questions for the numbers from the first to the last
abbrev pub series : (ℕ → Problem) → ℕ → ℕ → Until → Questions
series question low high ends =
    record { first = question low; others = map question (range_with_len (low + 1) (high - low)); until = ends }

-- the questions of a step
abbrev pub questions_of : Meaning → Questions
questions_of step =
    series (question_for step) (lowest step step.settings.size) (highest step step.settings.size)
    (until step.settings.size)

-- whether the asking ends with a question that has an answer, or has none
abbrev pub ends_with : Until → Bool → Bool
ends_with Answered is_answered = is_answered
ends_with Unanswered is_answered = not is_answered

-- whether no further question is asked after this one
abbrev pub is_last : Until → Problem → Bool
is_last ends p = ends_with ends (is_some (answer p))

-- of some questions those that are asked
abbrev pub up_to : (Problem → Bool) → List Problem → List Problem
up_to ends [] = []
up_to ends (p ∷ others) = p ∷ (if ends p then [] else up_to ends others)

-- the questions that are asked
abbrev pub asked : Questions → List Problem
asked questions = up_to (is_last questions.until) (questions.first ∷ questions.others)

-- the number of nodes of some questions together
abbrev pub nodes_of : List Problem → ℕ
nodes_of ps = sum_by (λ p. length (nodes p)) ps

-- a question with its answer
pub record Found : Type 0 where
  pub question : Problem
  pub rows : List ℕ

-- where these rows were found for a question, they; else what was found before
abbrev pub found_by : Option Found → Problem → Option (List ℕ) → Option Found
found_by earlier p None = earlier
found_by earlier p (Some rows) = Some (record { question = p; rows = rows })

-- of some questions the last that has an answer; else what was found before them
abbrev pub last_found : Option Found → List Problem → Option Found
last_found earlier [] = earlier
last_found earlier (p ∷ ps) = last_found (found_by earlier p (answer p)) ps

-- a question, and those that are asked before it
pub record Turn : Type 0 where
  pub earlier : List Problem
  pub question : Problem

-- each of some questions with those before it
abbrev pub turns : List Problem → List Problem → List Turn
turns earlier [] = []
turns earlier (p ∷ ps) = record { earlier = earlier; question = p } ∷ turns (earlier ++ p ∷ []) ps

-- whether the nodes of the question and of those before it pass the budget
abbrev pub passes : ℕ → Turn → Bool
passes budget turn = nat_lt budget (nodes_of turn.earlier + length (nodes turn.question))

-- the last question
abbrev pub last_of : Problem → List Problem → Problem
last_of p [] = p
last_of p (next ∷ others) = last_of next others

-- The outcome of a step: how it ends; the dimensions of the matrix or, where there is none, of the last question that
-- is asked; and the resolution that was reached, that of the question whose answer the matrix is, or else 0.
pub record Conclusion : Type 0 where
  pub dimensions : Dimensions
  pub ending : Ending
  pub reached : ℕ

-- the resolution that a question asks for, or 0 where it asks for effects
abbrev pub resolution_wanted : Requirement → ℕ
resolution_wanted (AtResolution r) = r
resolution_wanted (ForEffects estimate besides) = 0

-- that of the question that was answered
abbrev pub reached_by : Option Found → ℕ
reached_by None = 0
reached_by (Some found) = resolution_wanted found.question.requirement

-- after so many nodes in all, with the last design that was found or, where the last question is p, with none
abbrev pub concluded : Problem → Option Found → ℕ → Conclusion
concluded p None count = record { dimensions = p.dimensions; ending = NoDesign count; reached = 0 }
concluded p (Some found) count = record {
  dimensions = found.question.dimensions;
  ending = Design found.rows count;
  reached = resolution_wanted found.question.requirement;
}

-- where the budget ended in the question p: with what was found by then, and the resolution that was reached
abbrev pub cut_short : Problem → Option Found → ℕ → ℕ → Conclusion
cut_short p None reached budget =
    record { dimensions = p.dimensions; ending = BudgetEnded None budget; reached = reached }
cut_short p (Some found) reached budget =
    record { dimensions = found.question.dimensions; ending = BudgetEnded (Some found.rows) budget; reached = reached }

-- what was found where the budget ended: the matrix that the search of the last question carries, else the last design
-- of those before
abbrev pub left_at : ℕ → Turn → Option Found
left_at budget turn =
    found_by (last_found None turn.earlier) turn.question (carried turn.question (budget - nodes_of turn.earlier))

-- a matrix that a search carries need not be an answer; where there is none, what was found before is one
abbrev pub reached_beside : Option (List ℕ) → Option Found → ℕ
reached_beside None before = reached_by before
reached_beside (Some rows) before = 0

-- the resolution that was reached where the budget ended
abbrev pub reached_at : ℕ → Turn → ℕ
reached_at budget turn =
    reached_beside (carried turn.question (budget - nodes_of turn.earlier)) (last_found None turn.earlier)

-- the outcome of the questions that are asked, the last of which is p, by the first with which the budget is passed
abbrev pub conclusion_by : Problem → List Problem → ℕ → Option Turn → Conclusion
conclusion_by p ps budget None = concluded p (last_found None ps) (nodes_of ps)
conclusion_by p ps budget (Some turn) = cut_short turn.question (left_at budget turn) (reached_at budget turn) budget

-- the outcome of questions within a budget
unfoldable pub conclusion_of : Questions → ℕ → Conclusion
conclusion_of questions budget =
    let ps = asked questions in
    conclusion_by (last_of questions.first ps) ps budget (find (passes budget) (turns [] ps))

-- the outcome of a step
abbrev pub outcome_of : Meaning → Conclusion
outcome_of step = conclusion_of (questions_of step) step.settings.budget

-- that which an outcome states
abbrev pub conclusion_in : Outcome → Conclusion
conclusion_in outcome =
    record { dimensions = dimensions_of outcome.shape; ending = ending_in outcome; reached = outcome.reached }

-- What is given for a step, by its outcome.
use Rattle.std.proofs.Common.{ℕ, ◌≡◌, ◌≤◌, ◌+◌, ◌^◌, length, List, [], ◌++◌, Option, Some, None, refl, sym, ap, ap₂}
use Rattle.std.proofs.Common.{subst, ◌∙◌}
use Rattle.std.proofs.lemmas.Option.{same_Some}
use Rattle.fx_designs.specs.Problems.{Dimensions, Problem}
use Rattle.fx_designs.specs.Outcomes.{Ending, Design, NoDesign, BudgetEnded}
use Rattle.fx_vectors.specs.declared.shape.Shape.{Shape}
use Rattle.fx_vectors.specs.Matrix.{MatrixView}
use Rattle.fx_statements.specs.declared.outcome.Outcome.{Outcome}
use Rattle.fx_statements.specs.declared.step.Step.{Step}
use Rattle.fx_statements.specs.Steps.{Meaning, meaning_of}
use Rattle.fx_statements.specs.Outcomes.{ending_in, HasMatrix}
use Rattle.fx_vectors.specs.Shape.{dimensions_of}
use Rattle.fx_alias.specs.Folds.{fold_section}
use Rattle.fx_alias.specs.Heads.{head_lines}
use Rattle.fx_alias.specs.Rules.{rules_section}
use Rattle.fx_alias.specs.Sections.{examined, sections, step_lines}
use Rattle.fx_alias.specs.declared.marks.BlockMarks.TheVariants.{Without}
use Rattle.fx_statements.specs.Questions.{Conclusion, block_factors, conclusion_in, outcome_of, question_for}
use Rattle.fx_statements.specs.Questions.{run_factors}
use Rattle.fx_statements.proofs.Concluded.{step-question}
use Rattle.fx_answer.specs.Books.{books_of}
use Rattle.fx_answer.specs.Outcomes.{IsOutcome}
use Rattle.fx_answer.proofs.StepSettings.{blocks_again}
use Rattle.fx_program.specs.Statuses.{status_of}
use Rattle.fx_plan.specs.Steps.{IsDesignOf}
use Rattle.fx_program.specs.Files.{book_files, book_lines, design_files, design_lines, matrix_in}
use Rattle.fx_program.specs.Output.{Output, asked_of, outcome_given, step_output, with_files}
use Rattle.fx_program.specs.Plans.{AskedView, asked_by}

module _ (shape : Shape) where
  abbrev with_rows : List ℕ → MatrixView
  with_rows rows = record { shape = shape; rows = rows }

  -- a matrix has the sections of the ending's
  pub with_matrix : (step : Meaning) (books : List ℕ) (ending : Ending) (matrix : MatrixView)
      → HasMatrix shape ending (Some matrix)
      → rules_section (dimensions_of matrix.shape) step.factors matrix.rows ++ (books ++ (examined Without step matrix ++ fold_section step matrix))
      ≡ sections (dimensions_of shape) step books ending
  with_matrix step books (Design rows count) matrix h =
      ap (λ (x : MatrixView). rules_section (dimensions_of x.shape) step.factors x.rows ++ (books ++ (examined Without step x ++ fold_section step x)))
      (same_Some matrix (with_rows rows) h.0)
  with_matrix step books (NoDesign count) matrix h = absurd (cc h)
  with_matrix step books (BudgetEnded None budget) matrix h = absurd (cc h)
  with_matrix step books (BudgetEnded (Some rows) budget) matrix h =
      ap (λ (x : MatrixView). rules_section (dimensions_of x.shape) step.factors x.rows ++ (books ++ (examined Without step x ++ fold_section step x)))
      (same_Some matrix (with_rows rows) h.0)

  -- and is whole
  pub rows_are : (ending : Ending) (matrix : MatrixView) → HasMatrix shape ending (Some matrix)
      → length matrix.rows ≡ shape.s + shape.t
  rows_are (Design rows count) matrix h =
      ap (λ (x : MatrixView). length x.rows) (same_Some matrix (with_rows rows) h.0) ∙ h.1
  rows_are (NoDesign count) matrix h = absurd (cc h)
  rows_are (BudgetEnded None budget) matrix h = absurd (cc h)
  rows_are (BudgetEnded (Some rows) budget) matrix h =
      ap (λ (x : MatrixView). length x.rows) (same_Some matrix (with_rows rows) h.0) ∙ h.1

  -- of the outcome's shape
  pub shape_is : (ending : Ending) (matrix : MatrixView) → HasMatrix shape ending (Some matrix) → matrix.shape ≡ shape
  shape_is (Design rows count) matrix h = ap (λ (x : MatrixView). x.shape) (same_Some matrix (with_rows rows) h.0)
  shape_is (NoDesign count) matrix h = absurd (cc h)
  shape_is (BudgetEnded None budget) matrix h = absurd (cc h)
  shape_is (BudgetEnded (Some rows) budget) matrix h =
      ap (λ (x : MatrixView). x.shape) (same_Some matrix (with_rows rows) h.0)

  -- without a matrix there are only the lines of the books
  pub without_matrix : (step : Meaning) (books : List ℕ) (ending : Ending) → HasMatrix shape ending None
      → books ≡ sections (dimensions_of shape) step books ending
  without_matrix step books (Design rows count) h = absurd (cc h.0)
  without_matrix step books (NoDesign count) h = refl
  without_matrix step books (BudgetEnded None budget) h = refl
  without_matrix step books (BudgetEnded (Some rows) budget) h = absurd (cc h.0)

-- head and sections, one after the other
pub all_lines : (number : ℕ) (step : Meaning) (books : List ℕ) (outcome : Conclusion) (lines after : List ℕ)
    → lines ≡ [] ++ head_lines number step outcome
    → after ≡ sections outcome.dimensions step books outcome.ending
    → lines ++ after ≡ step_lines number step books outcome
unfolding step_lines
all_lines number step books outcome lines after head rest = ap₂ (λ (x y : List ℕ). x ++ y) head rest

-- the matrix of an outcome is that of its ending
pub matrix_is : (shape : Shape) (ending : Ending) (matrix : Option MatrixView) → HasMatrix shape ending matrix
    → matrix_in (dimensions_of shape) ending ≡ matrix
matrix_is shape (Design rows count) matrix h = sym h.0
matrix_is shape (NoDesign count) matrix h = sym h
matrix_is shape (BudgetEnded None budget) matrix h = sym h
matrix_is shape (BudgetEnded (Some rows) budget) matrix h = sym h.0

-- what is given by the matrix of an outcome, however it came about
pub is_made : (seed number : ℕ) (earlier : List AskedView) (step : Meaning) (outcome : Outcome)
    → outcome_given seed number earlier step outcome.books (conclusion_in outcome)
    ≡ with_files (book_files number outcome.books ++ design_files seed number earlier step outcome.matrix)
    (step_lines number step (book_lines number outcome.books) (conclusion_in outcome)
    ++ design_lines seed number earlier step outcome.matrix)
    (status_of (ending_in outcome))
is_made seed number earlier step outcome = ap all (matrix_is outcome.shape (ending_in outcome) outcome.matrix outcome.whole)
  where
    all : Option MatrixView → Output
    all matrix =
        with_files (book_files number outcome.books ++ design_files seed number earlier step matrix)
        (step_lines number step (book_lines number outcome.books) (conclusion_in outcome)
        ++ design_lines seed number earlier step matrix)
        (status_of (ending_in outcome))

-- what is given for a step is given by its outcome
pub by_outcome : (seed number : ℕ) (earlier : List AskedView) (step : Meaning) (outcome : Outcome) → IsOutcome step outcome
    → step_output seed number earlier step ≡ outcome_given seed number earlier step outcome.books (conclusion_in outcome)
by_outcome seed number earlier step outcome is =
    ap (outcome_given seed number earlier step (books_of step)) (sym is.concluded)
    ∙ ap (λ books. outcome_given seed number earlier step books (conclusion_in outcome)) (sym is.books)

-- the OUTPUT statements of a step, with the matrix of its outcome
pub asked_again : (step : Meaning) (outcome : Outcome) → IsOutcome step outcome
    → asked_of step ≡ asked_by step outcome.matrix
asked_again step outcome is =
    ap (λ (c : Conclusion). asked_by step (matrix_in c.dimensions c.ending)) (sym is.concluded)
    ∙ ap (asked_by step) (matrix_is outcome.shape (ending_in outcome) outcome.matrix outcome.whole)

-- the dimensions of a question of a step
record AreOfStep (step : Meaning) (d : Dimensions) : Type 0 where
  levels : d.q ≡ step.settings.q
  block_factors : d.t ≡ block_factors step.settings.blocks d.m d.t

of_step : (step : Meaning) → AreOfStep step (outcome_of step).dimensions
of_step step =
    let one = step-question step in
    let is : (outcome_of step).dimensions ≡ (question_for step one.1.n).dimensions =
    one.2 ∙ ap (λ (p : Problem). p.dimensions) one.1.is in
    subst (AreOfStep step) (sym is) (record {
      levels = refl;
      block_factors = blocks_again step.settings.blocks (run_factors step.settings.size one.1.n) one.1.n;
    })

-- and its matrix, where it has one, is a design of the step
pub is_design : (step : Step) (outcome : Outcome) (matrix : MatrixView) → IsOutcome (meaning_of step) outcome
    → outcome.matrix ≡ Some matrix
    → IsDesignOf step matrix
is_design step outcome matrix is e =
    let there : HasMatrix outcome.shape (ending_in outcome) (Some matrix) =
    subst (HasMatrix outcome.shape (ending_in outcome)) e outcome.whole in
    let shape : matrix.shape ≡ outcome.shape = shape_is outcome.shape (ending_in outcome) matrix there in
    let own : AreOfStep (meaning_of step) (dimensions_of matrix.shape) =
    subst (AreOfStep (meaning_of step))
    (sym (ap dimensions_of shape ∙ ap (λ (c : Conclusion). c.dimensions) is.concluded)) (of_step (meaning_of step)) in
    record {
      complete = rows_are outcome.shape (ending_in outcome) matrix there ∙ ap (λ (z : Shape). z.s + z.t) (sym shape);
      levels = own.levels;
      factors = ap (λ (z : Shape). z.s) shape ∙ is.factors;
      unblocked = λ b. own.block_factors ∙ ap (λ b. block_factors b matrix.shape.m matrix.shape.t) b;
      block_factors = λ t b. own.block_factors ∙ ap (λ b. block_factors b matrix.shape.m matrix.shape.t) b;
      few = subst (λ (z : Shape). z.q ^ z.t ≤ 1024) (sym shape) is.few_blocks;
    }

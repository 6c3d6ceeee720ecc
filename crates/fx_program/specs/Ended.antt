-- What is given for a step that has ended, however its design came about.
use Rattle.std.specs.Prelude.{ℕ, ◌≡◌, Bool, List, [], ◌++◌, All, Option, Some, None}
use Rattle.fx_vectors.specs.Matrix.{MatrixView}
use Rattle.fx_vectors.specs.Shape.{dimensions_of}
use Rattle.fx_vectors.specs.declared.book.NamedBook.{NamedBook}
use Rattle.fx_statements.specs.declared.outcome.Outcome.{Outcome}
use Rattle.fx_statements.specs.declared.step.Step.{Step}
use Rattle.fx_statements.specs.Outcomes.{ending_in}
use Rattle.fx_statements.specs.Questions.{conclusion_in}
use Rattle.fx_statements.specs.Steps.{Meaning}
use Rattle.fx_alias.specs.Given.{given_head}
use Rattle.fx_alias.specs.Sections.{matrix_sections, step_lines}
use Rattle.fx_alias.specs.declared.marks.BlockMarks.TheVariants.{With}
use Rattle.fx_answer.specs.Outcomes.{HasShape}
use Rattle.fx_plan.specs.Steps.{IsDesignOf}
use Rattle.fx_program.specs.Files.{book_files, book_lines, design_files, design_lines}
use Rattle.fx_program.specs.Output.{Output, with_files}
use Rattle.fx_program.specs.Plans.{AskedView}
use Rattle.fx_program.specs.Statuses.{met_status, status_of}
use Rattle.fx_program.specs.declared.giving.Origin.{Origin}
use Rattle.fx_program.specs.declared.giving.Origin.TheVariants.{Search, Rules}

-- its matrix, if there is one, is a whole matrix of the step, and its books have shapes within the limits
pub record IsEnded (step : Step) (outcome : Outcome) : Type 0 where
  pub design : (matrix : MatrixView) → outcome.matrix ≡ Some matrix → IsDesignOf step matrix
  pub shapes : All HasShape outcome.books

-- what is listed of a design that rules give and that meets its model or not, but for its files
abbrev pub given_lines : ℕ → Meaning → Option Bool → MatrixView → List ℕ
given_lines number step met matrix =
    given_head number step matrix met
    ++ matrix_sections With (dimensions_of matrix.shape) step [] matrix.rows

abbrev pub lines_if_given : ℕ → Meaning → Option Bool → Option MatrixView → List ℕ
lines_if_given number step met None = []
lines_if_given number step met (Some matrix) = given_lines number step met matrix

-- what is listed of a step, but for the files of its designs
abbrev pub ended_lines : Origin → ℕ → Meaning → Outcome → List ℕ
ended_lines Search number step outcome =
    step_lines number step (book_lines number outcome.books) (conclusion_in outcome)
ended_lines (Rules met) number step outcome = lines_if_given number step met outcome.matrix

abbrev pub ended_status : Origin → Outcome → ℕ
ended_status Search outcome = status_of (ending_in outcome)
ended_status (Rules met) outcome = met_status met

-- what is given for a step with these books, this matrix, these lines and this status: the files of its books, its
-- plans and its fold-over, then its lines with those that name the files
abbrev pub ended_output : ℕ → ℕ → List AskedView → Meaning → List NamedBook → Option MatrixView → List ℕ → ℕ → Output
ended_output seed number earlier step books matrix lines status =
    with_files (book_files number books ++ design_files seed number earlier step matrix)
    (lines ++ design_lines seed number earlier step matrix)
    status

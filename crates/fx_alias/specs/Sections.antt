-- The sections of a listing, and all lines of a step.
use Rattle.std.specs.Prelude.{if◌then◌else◌, List, ℕ, [], ◌++◌, Some, None}
use Rattle.fx_designs.specs.Problems.{Dimensions}
use Rattle.fx_designs.specs.Patterns.{pattern_of}
use Rattle.fx_designs.specs.Outcomes.{Ending, Design, NoDesign, BudgetEnded}
use Rattle.fx_vectors.specs.Shape.{dimensions_of}
use Rattle.fx_vectors.specs.Matrix.{MatrixView}
use Rattle.fx_runs.specs.Runs.{design_of}
use Rattle.fx_statements.specs.Questions.{Conclusion}
use Rattle.fx_statements.specs.Steps.{Meaning}
use Rattle.fx_alias.specs.declared.marks.BlockMarks.{BlockMarks}
use Rattle.fx_alias.specs.declared.marks.BlockMarks.TheVariants.{Without}
use Rattle.fx_alias.specs.Aliasing.{alias_section, listed_components}
use Rattle.fx_alias.specs.Blocked.{blocked_section}
use Rattle.fx_alias.specs.Folds.{fold_section}
use Rattle.fx_alias.specs.Heads.{head_lines}
use Rattle.fx_alias.specs.Patterns.{pattern_lines}
use Rattle.fx_alias.specs.Points.{design_section}
use Rattle.fx_alias.specs.Rules.{rules_section}

-- the sections of a design that the step asks for, in this order: its runs, its aliases, with marks or without, what is
-- confounded with blocks, its word-length pattern
abbrev pub examined : BlockMarks → Meaning → MatrixView → List ℕ
examined marks step matrix =
    (if step.examine.design then design_section step.factors (design_of matrix) else [])
    ++ (if step.examine.aliasing
    then alias_section marks step.factors (design_of matrix)
    (listed_components matrix.shape.q matrix.shape.s step.requirement) else [])
    ++ (if step.examine.blocked
    then blocked_section step.factors (design_of matrix)
    (listed_components matrix.shape.q matrix.shape.s step.requirement)
    else [])
    ++ (if step.examine.aberration then pattern_lines (pattern_of (dimensions_of matrix.shape) matrix.rows) else [])

-- the rule matrix of these dimensions with these rows
abbrev pub matrix_of : Dimensions → List ℕ → MatrixView
matrix_of d rows = record { shape = record { q = d.q; m = d.m; s = d.s; t = d.t }; rows = rows }

-- what is listed of a matrix: its rules, then the lines of the step's books, the sections that the step asks for, and
-- its fold-over
abbrev pub matrix_sections : BlockMarks → Dimensions → Meaning → List ℕ → List ℕ → List ℕ
matrix_sections marks d step books rows =
    rules_section d step.factors rows
    ++ (books ++ (examined marks step (matrix_of d rows) ++ fold_section step (matrix_of d rows)))

-- the lines after the head, with those of the books; no class is marked
abbrev pub sections : Dimensions → Meaning → List ℕ → Ending → List ℕ
sections d step books (Design rows count) = matrix_sections Without d step books rows
sections d step books (NoDesign count) = books
sections d step books (BudgetEnded None budget) = books
sections d step books (BudgetEnded (Some rows) budget) = matrix_sections Without d step books rows

-- all lines of the step of this number, with the lines of its books, by its outcome
unfoldable pub step_lines : ℕ → Meaning → List ℕ → Conclusion → List ℕ
step_lines number step books outcome =
    head_lines number step outcome ++ sections outcome.dimensions step books outcome.ending

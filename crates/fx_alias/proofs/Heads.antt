-- The lines of a head by the matrix of an outcome.
use Rattle.std.proofs.Common.{ℕ, ◌≡◌, ◌<◌, ◌++◌, List, [], length, Option, Some, None, append-nil, sym, lt-ltb}
use Rattle.std.specs.Prelude.{codes}
use Rattle.std.proofs.lemmas.Bool.{cond-true}
use Rattle.fx_designs.specs.Patterns.{resolution_of}
use Rattle.fx_designs.specs.Outcomes.{Design, BudgetEnded}
use Rattle.fx_vectors.specs.declared.shape.Shape.{Shape}
use Rattle.fx_vectors.specs.Shape.{dimensions_of}
use Rattle.fx_vectors.specs.Matrix.{MatrixView}
use Rattle.fx_statements.specs.Endings.{HasMatrix, rows_if, rows_of}
use Rattle.fx_statements.specs.Steps.{Meaning}
use Rattle.fx_alias.specs.Heads.{budget_line, clear_line, matrix_lines, nodes_line, outcome_lines, resolution_claim}
use Rattle.fx_alias.specs.Heads.{resolution_line}

-- no weight has a word
pub no-words : (claim : List ℕ) (a : List ℕ) → length a < resolution_of a
    → codes "no defining words\n" ≡ resolution_line claim a
no-words claim a h = sym (cond-true _ (codes "no defining words\n") _ (lt-ltb _ _ h))

-- the lines of a search that ended with a design
pub design-lines : (step : Meaning) (shape : Shape) (reached : ℕ) (matrix : Option MatrixView) (n : ℕ)
    → HasMatrix shape (Design (rows_of matrix) n) matrix
    → matrix_lines [] (resolution_claim step) (clear_line step (codes " highest") reached) matrix ++ nodes_line n
    ≡ outcome_lines step (dimensions_of shape) reached (Design (rows_of matrix) n)
design-lines step shape reached matrix n h =
    cc

-- the lines of a budget that ended
pub budget-lines : (step : Meaning) (shape : Shape) (reached : ℕ) (matrix : Option MatrixView) (n : ℕ)
    → HasMatrix shape (BudgetEnded (rows_if matrix) n) matrix
    → budget_line n ++ matrix_lines (codes " not proved best") [] (clear_line step [] reached) matrix
    ≡ outcome_lines step (dimensions_of shape) reached (BudgetEnded (rows_if matrix) n)
budget-lines step shape reached None n h = append-nil (budget_line n)
budget-lines step shape reached (Some matrix) n h =
    cc

-- The ending of a step's search, by what its outcome has.
use Rattle.std.specs.Prelude.{ℕ, ◌≡◌, ◌+◌, List, [], length, Option, Some, None}
use Rattle.std.proofs.Props.{props}
use Rattle.fx_designs.specs.Outcomes.{Ending, Design, NoDesign, BudgetEnded}
use Rattle.fx_vectors.specs.declared.shape.Shape.{Shape}
use Rattle.fx_vectors.specs.Matrix.{MatrixView}
use Rattle.fx_statements.specs.declared.outcome.End.{End}
use Rattle.fx_statements.specs.declared.outcome.End.TheVariants as end

-- the rows of a matrix, or none
abbrev pub rows_of : Option MatrixView → List ℕ
rows_of None = []
rows_of (Some matrix) = matrix.rows

-- the rows of a matrix, where there is one
abbrev pub rows_if : Option MatrixView → Option (List ℕ)
rows_if None = None
rows_if (Some matrix) = Some matrix.rows

-- the ending by its kind, its matrix and its number of nodes
abbrev pub ending_by : End → Option MatrixView → ℕ → Ending
ending_by end.Design matrix count = Design (rows_of matrix) count
ending_by end.NoDesign matrix count = NoDesign count
ending_by end.Budget matrix count = BudgetEnded (rows_if matrix) count

-- the matrix that comes with an ending: that of its design or of an ended budget, whole and of this shape; else none
abbrev pub HasMatrix : Shape → Ending → Option MatrixView → Type 0
HasMatrix shape (Design rows count) matrix =
    (matrix ≡ Some (record { shape = shape; rows = rows })) × (length rows ≡ shape.s + shape.t)
HasMatrix shape (NoDesign count) matrix = matrix ≡ None
HasMatrix shape (BudgetEnded None budget) matrix = matrix ≡ None
HasMatrix shape (BudgetEnded (Some rows) budget) matrix =
    (matrix ≡ Some (record { shape = shape; rows = rows })) × (length rows ≡ shape.s + shape.t)

-- and that it does has one proof
pub HasMatrix-prop : (shape : Shape) (ending : Ending) (matrix : Option MatrixView)
    → IsProp (HasMatrix shape ending matrix)
HasMatrix-prop shape (Design rows count) matrix = Prim.hlevel props
HasMatrix-prop shape (NoDesign count) matrix = Prim.hlevel props
HasMatrix-prop shape (BudgetEnded None budget) matrix = Prim.hlevel props
HasMatrix-prop shape (BudgetEnded (Some rows) budget) matrix = Prim.hlevel props

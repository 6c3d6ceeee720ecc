-- How what is kept of the finished questions of a step stands for what they have found.
use Rattle.std.specs.Prelude.{◌≡◌, ◌≤◌, ◌+◌, ◌^◌, length, Option, Some, None}
use Rattle.fx_vectors.specs.Matrix.{MatrixView}
use Rattle.fx_vectors.specs.declared.shape.Shape.{Shape}
use Rattle.fx_vectors.specs.Shape.{IsShape, dimensions_of}
use Rattle.fx_statements.specs.declared.outcome.Outcome.{Outcome}
use Rattle.fx_statements.specs.Steps.{Meaning}
use Rattle.fx_statements.specs.Questions.{Found}

-- a matrix is that of what was found, or there is neither
abbrev pub StandsFor : Option MatrixView → Option Found → Type 0
StandsFor None None = Unit {0}
StandsFor (Some matrix) None = ⊥
StandsFor None (Some found) = ⊥
StandsFor (Some matrix) (Some found) =
    (matrix.rows ≡ found.rows) × (dimensions_of matrix.shape ≡ found.question.dimensions)

-- the shape of a question of a step
pub record IsShapeOf (step : Meaning) (shape : Shape) : Type 0 where
  pub shaped : IsShape shape
  pub factors : shape.s ≡ length step.factors
  pub few_blocks : shape.q ^ shape.t ≤ 1024

-- a matrix, where there is one, has all rows of its shape
abbrev pub IsWhole : Option MatrixView → Type 0
IsWhole None = Unit {0}
IsWhole (Some matrix) = length matrix.rows ≡ matrix.shape.s + matrix.shape.t

-- and the shape is of the step
abbrev pub IsOf : Meaning → Option MatrixView → Type 0
IsOf step None = Unit {0}
IsOf step (Some matrix) = IsShapeOf step matrix.shape

-- an outcome with such a shape
abbrev pub IsOutcomeOf : Meaning → Outcome → Type 0
IsOutcomeOf step outcome = IsShapeOf step outcome.shape

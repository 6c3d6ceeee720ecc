-- The matrix of which a listing and plans are made is that of the outcome.
use Rattle.std.proofs.Common.{ℕ, ◌≡◌, List, Some, None, refl}
use Rattle.fx_designs.specs.Problems.{Dimensions}
use Rattle.fx_designs.specs.Outcomes.{Ending, Design, NoDesign, BudgetEnded}
use Rattle.fx_vectors.specs.Matrix.{MatrixView}
use Rattle.fx_vectors.specs.Shape.{dimensions_of}
use Rattle.fx_alias.specs.Sections.{matrix_of}
use Rattle.fx_statements.specs.Questions.{outcome_of}
use Rattle.fx_statements.specs.Steps.{Meaning}
use Rattle.fx_answer.specs.StepClaims.{IsAsItAsks, rows_in}
use Rattle.fx_answer.specs.ValidSteps.{IsValidStep}
use Rattle.fx_answer.proofs.Best.{what_it_asks}
use Rattle.fx_program.specs.Claims.{HasMatrixAsAsked}
use Rattle.fx_program.specs.Files.{matrix_in}

module _ (P : Dimensions → List ℕ → Type 0) (d : Dimensions) where
  of_rows : (rows : List ℕ) (matrix : MatrixView) → P d rows → Some (matrix_of d rows) ≡ Some matrix
      → P (dimensions_of matrix.shape) matrix.rows
  of_rows rows matrix own e =
      (let same : matrix_of d rows ≡ matrix = cc e in
      rw (← same) own)

  pub of_ending : (ending : Ending) (matrix : MatrixView) → ((rows : List ℕ) → rows_in ending ≡ Some rows → P d rows)
      → matrix_in d ending ≡ Some matrix
      → P (dimensions_of matrix.shape) matrix.rows
  of_ending (Design rows count) matrix each e = of_rows rows matrix (each rows refl) e
  of_ending (NoDesign count) matrix each e = cc e
  of_ending (BudgetEnded None budget) matrix each e = cc e
  of_ending (BudgetEnded (Some rows) budget) matrix each e = of_rows rows matrix (each rows refl) e

pub matrix_as_asked : (step : Meaning) → IsValidStep step → HasMatrixAsAsked step
matrix_as_asked step valid matrix e =
    of_ending (IsAsItAsks step) (outcome_of step).dimensions (outcome_of step).ending matrix (what_it_asks step valid) e

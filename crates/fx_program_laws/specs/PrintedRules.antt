-- What the rules of each matrix that is printed say.
use Rattle.std.specs.Prelude.{ℕ, ◌≡◌, ◌<◌, ◌+◌, ◌-◌, ◌^◌, List, count_by, Some}
use Rattle.fx_designs.specs.Vectors.{IsVector, same, vectors_of}
use Rattle.fx_designs.specs.Runs.{runs_of}
use Rattle.fx_designs.specs.Problems.{Dimensions}
use Rattle.fx_tree.specs.Introduced.{introduced, introducing}
use Rattle.fx_vectors.specs.Matrix.{MatrixView}
use Rattle.fx_vectors.specs.Shape.{dimensions_of}
use Rattle.fx_alias.specs.Rules.{HasItsRule}
use Rattle.fx_statements.specs.Questions.{outcome_of}
use Rattle.fx_statements.specs.Steps.{Meaning}
use Rattle.fx_program.specs.Files.{matrix_in}

-- The rules of a matrix, by the names of its factors, give the level of each row at every run; and the rows that
-- introduce run indexes have each combination of levels in equally many runs.
pub record RulesGiveTheLevels (factors : List (List ℕ)) (d : Dimensions) (rows : List ℕ) : Type 0 where
  pub rules : (k : ℕ) → k < d.s + d.t → HasItsRule d factors rows k
  pub factorial : (levels : List ℕ) → IsVector d.q (introduced d.q 0 rows) levels
      → count_by (λ run. same (introducing d.q 0 rows run) levels) (runs_of d.q d.m (vectors_of d.q d.m rows))
      ≡ d.q ^ (d.m - introduced d.q 0 rows)

-- this holds of the matrix of which the listing of a step is made, if there is one
abbrev pub HasRulesThatGiveTheLevels : Meaning → Type 0
HasRulesThatGiveTheLevels step = (matrix : MatrixView)
    → matrix_in (outcome_of step).dimensions (outcome_of step).ending ≡ Some matrix
    → RulesGiveTheLevels step.factors (dimensions_of matrix.shape) matrix.rows

-- Rule matrices of given dimensions, canonical or not, and the claim that none of them meets a requirement.
use Rattle.std.specs.Prelude.{ℕ, ◌≡◌, false, List, ◌++◌, map, length, All}
use Rattle.fx_designs.specs.Galois.{number}
use Rattle.fx_designs.specs.Vectors.{IsVector}
use Rattle.fx_designs.specs.Runs.{runs_of}
use Rattle.fx_designs.specs.Problems.{Dimensions, Requirement}
use Rattle.fx_designs.specs.Demands.{do_runs_meet}

-- a rule matrix: any s factor rows and t block rows of m codes
pub record IsRuleMatrix (d : Dimensions) (factors blocks : List (List ℕ)) : Type 0 where
  pub factor_count : length factors ≡ d.s
  pub block_count : length blocks ≡ d.t
  pub factor_rows : All (λ r. IsVector d.q d.m r) factors
  pub block_rows : All (λ r. IsVector d.q d.m r) blocks

-- the numbers of a rule matrix's rows, the factor rows first
abbrev pub row_numbers : Dimensions → List (List ℕ) → List (List ℕ) → List ℕ
row_numbers d factors blocks = map (number d.q) (factors ++ blocks)

-- the runs of no rule matrix at all meet the requirement
abbrev pub NoneMeets : Dimensions → Requirement → Type 0
NoneMeets d wanted = (factors blocks : List (List ℕ))
    → IsRuleMatrix d factors blocks
    → do_runs_meet d wanted (runs_of d.q d.m (factors ++ blocks)) ≡ false

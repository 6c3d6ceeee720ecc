-- The first design of a problem.
use Rattle.std.specs.Prelude.{ℕ, ◌≡◌, List, true}
use Rattle.fx_designs.specs.Problems.{Problem}
use Rattle.fx_designs.specs.Answers.{before, is_design}

-- a canonical matrix that meets the requirement, before which no other stands that does
pub record IsFirstDesign (p : Problem) (rows : List ℕ) : Type 0 where
  pub design : is_design p rows ≡ true
  pub none_before : (other : List ℕ) → is_design p other ≡ true → before other rows ≡ true → ⊥

-- The tests of vectors and runs, as facts.
use Rattle.std.specs.Prelude.{ℕ, ◌≡◌, ◌<◌, ◌==◌, ◌/◌, ◌%◌, ◌^◌, List, [], ◌∷◌, zero, suc, count_by, All}
use Rattle.fx_designs.specs.Vectors.{dot, last_nonzero}
use Rattle.fx_designs.specs.Runs.{block}

-- the last nonzero entry is 1
abbrev pub IsNormal : List ℕ → Type 0
IsNormal v = last_nonzero v ≡ 1

-- u.x has one value on all runs x
abbrev pub IsConstant : ℕ → List ℕ → List (List ℕ) → Type 0
IsConstant q u runs = (c : ℕ) × All (λ x. dot q u x ≡ c) runs

-- each field value occurs equally often as u.x
pub record IsBalanced (q : ℕ) (u : List ℕ) (runs : List (List ℕ)) : Type 0 where
  pub same : (y z : ℕ) → y < q → z < q → count_by (λ x. dot q u x == y) runs ≡ count_by (λ x. dot q u x == z) runs

-- constant inside each block
abbrev pub IsConstantInBlocks : ℕ → ℕ → List ℕ → List (List ℕ) → Type 0
IsConstantInBlocks q s u runs = (z : ℕ) → IsConstant q u (block q s z runs)

-- balanced inside each block
abbrev pub IsBalancedInBlocks : ℕ → ℕ → List ℕ → List (List ℕ) → Type 0
IsBalancedInBlocks q s u runs = (z : ℕ) → IsBalanced q u (block q s z runs)

-- the vector of length n that stands at place k of the points
abbrev pub point_of : ℕ → ℕ → ℕ → List ℕ
point_of q zero k = []
point_of q (suc n) k = (k / q ^ n) ∷ point_of q n (k % q ^ n)

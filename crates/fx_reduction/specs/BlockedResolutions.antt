-- The highest resolution that rule matrices meet with their blocks.
use Rattle.std.specs.Prelude.{ℕ, ◌≡◌, ◌<◌, ◌≤◌, ◌+◌, max, true, List}
use Rattle.fx_designs.specs.Problems.{Dimensions, AtResolution}
use Rattle.fx_designs.specs.Demands.{is_met}
use Rattle.fx_designs.specs.Matrices.{NoneMeets}

-- the highest resolution that is asked for: that of a design without defining words, and at least 3
abbrev pub top_resolution : Dimensions → ℕ
top_resolution d = max 3 (d.s + 1)

-- Rows meet resolution r with their blocks, and no rule matrix of these dimensions, canonical or not, meets a higher
-- one that is asked for.
pub record IsHighestInBlocks (d : Dimensions) (rows : List ℕ) (r : ℕ) : Type 0 where
  pub from : 3 ≤ r
  pub upto : r ≤ top_resolution d
  pub met : is_met d (AtResolution r) rows ≡ true
  pub none_above : (k : ℕ) → r < k → k ≤ top_resolution d → NoneMeets d (AtResolution k)

-- where no rule matrix meets a resolution, none meets a higher one
abbrev pub NoneMeetsHigher : Dimensions → Type 0
NoneMeetsHigher d = (r k : ℕ) → r ≤ k → NoneMeets d (AtResolution r) → NoneMeets d (AtResolution k)

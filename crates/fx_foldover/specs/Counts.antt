-- How the words of a combined plan are counted.
use Rattle.std.specs.Prelude.{ℕ, ◌≡◌, ◌<◌, ◌≤◌, ◌+◌, ◌*◌, ◌^◌, List, length, slice_index}
use Rattle.fx_designs.specs.Vectors.{vectors_of}
use Rattle.fx_words.specs.Spreads.{spread}

-- for each weight up to s, one point of n run indexes after another, how many vectors of the weight over the rows have
-- that sum
pub record AreCounts (n s : ℕ) (rows counts : List ℕ) : Type 0 where
  pub len : length counts ≡ (s + 1) * 2 ^ n
  pub are : (w x : ℕ) → w ≤ s → x < 2 ^ n
      → slice_index counts (w * 2 ^ n + x) ≡ spread 2 n (vectors_of 2 n rows) w x

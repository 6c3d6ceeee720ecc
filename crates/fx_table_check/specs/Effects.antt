-- How many words of one factor, and of two, have each sum, counted up to 2.
use Rattle.std.specs.Prelude.{ℕ, ◌≡◌, ◌<◌, ◌≤◌, ◌^◌, min, List, length, slice_index}
use Rattle.fx_designs.specs.Vectors.{vectors_of}
use Rattle.fx_words.specs.Spreads.{spread}
use Rattle.fx_table_check.specs.declared.effects.Effects.{Effects}

-- a count up to 2 for each of so many points
pub record AreFew (size : ℕ) (counts : List ℕ) : Type 0 where
  pub len : size ≤ length counts
  pub few : (x : ℕ) → x < size → slice_index counts x ≤ 2

-- of a weight, over these rows, for each sum
abbrev pub AreCounted : ℕ → ℕ → List ℕ → ℕ → List ℕ → Type 0
AreCounted q m rows k counts = (x : ℕ) → x < q ^ m → slice_index counts x ≡ min 2 (spread q m (vectors_of q m rows) k x)

pub record AreEffects (q m : ℕ) (rows : List ℕ) (effects : Effects) : Type 0 where
  pub none : AreCounted q m rows 0 effects.none
  pub ones : AreCounted q m rows 1 effects.ones
  pub twos : AreCounted q m rows 2 effects.twos

pub record IsCapped (size : ℕ) (effects : Effects) : Type 0 where
  pub none : AreFew size effects.none
  pub ones : AreFew size effects.ones
  pub twos : AreFew size effects.twos

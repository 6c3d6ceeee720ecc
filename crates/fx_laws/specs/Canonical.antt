-- Canonical rows.
use Rattle.std.specs.Prelude.{ℕ, ◌≡◌, ◌<◌, ◌≤◌, ◌+◌, ◌-◌, ◌^◌, ◌⊎◌, true, false, List, [], length, take, min}
use Rattle.std.specs.Prelude.{slice_index, slice_index_or, All}
use Rattle.fx_designs.specs.Galois.{number}
use Rattle.fx_designs.specs.Vectors.{zeros, vectors_of}
use Rattle.fx_designs.specs.Spans.{in_span, rank_of}
use Rattle.fx_designs.specs.Problems.{Dimensions, Requirement, AtResolution, ForEffects}
use Rattle.fx_laws.specs.Facts.{IsNormal}
use Rattle.fx_laws.specs.Changes.{unit}

-- row k of a list of rows
abbrev pub row : List (List ℕ) → ℕ → List ℕ
row rows k = slice_index_or rows k []

-- the rows of a canonical prefix: a row outside the span of the rows before it is the next unit vector, every other is
-- 0 or normal, and the first s rows can still have the rank min(s, m)
pub record IsCanonical (q m s : ℕ) (rows : List (List ℕ)) : Type 0 where
  pub new_is_unit : (k : ℕ) → k < length rows → in_span q m (take k rows) (row rows k) ≡ false
      → row rows k ≡ unit m (rank_of q m (take k rows))
  pub old_is_normal : (k : ℕ) → k < length rows → in_span q m (take k rows) (row rows k) ≡ true
      → (row rows k ≡ zeros m) ⊎ IsNormal (row rows k)
  pub reach : (k : ℕ) → k ≤ s → k ≤ length rows → min s m ≤ rank_of q m (take k rows) + (s - k)

-- under a resolution the first rows are the unit vectors, and the later ones are not 0, no unit vectors, and fall
pub record IsFalling (q m s : ℕ) (rows : List (List ℕ)) : Type 0 where
  pub units : (k : ℕ) → k < min s m → k < length rows → row rows k ≡ unit m k
  pub no_zero : (k : ℕ) → min s m ≤ k → k < min s (length rows) → row rows k ≡ zeros m → ⊥
  pub no_unit : (k i : ℕ) → min s m ≤ k → k < min s (length rows) → i < m → row rows k ≡ unit m i → ⊥
  pub falls : (k : ℕ) → min s m ≤ k → k + 1 < min s (length rows) → number q (row rows (k + 1)) < number q (row rows k)

-- the same of factor rows by their numbers
pub record AreFalling (q m s : ℕ) (rows : List ℕ) : Type 0 where
  pub units : (k : ℕ) → k < min s m → k < length rows → slice_index rows k ≡ q ^ k
  pub no_zero : (k : ℕ) → min s m ≤ k → k < min s (length rows) → slice_index rows k ≡ 0 → ⊥
  pub no_unit : (k i : ℕ) → min s m ≤ k → k < min s (length rows) → i < m → slice_index rows k ≡ q ^ i → ⊥
  pub falls : (k : ℕ) → min s m ≤ k → k + 1 < min s (length rows) → slice_index rows (k + 1) < slice_index rows k

-- under a resolution the factor rows are units, and then fall; for effects nothing is asked
abbrev pub IsOrdered : Dimensions → Requirement → List ℕ → Type 0
IsOrdered d (AtResolution r) rows = AreFalling d.q d.m d.s rows
IsOrdered d (ForEffects estimate besides) rows = Unit {0}

-- what the test of canonical prefixes says
pub record IsCanonicalPrefix (d : Dimensions) (wanted : Requirement) (rows : List ℕ) : Type 0 where
  pub len : length rows ≤ d.s + d.t
  pub below : All (λ r. r < d.q ^ d.m) rows
  pub canonical : IsCanonical d.q d.m d.s (vectors_of d.q d.m rows)
  pub ordered : IsOrdered d wanted rows

-- Places of forbidden vectors that stand for all that have their last factor right after some rows.
use Rattle.std.specs.Prelude.{ℕ, ◌≡◌, ◌<◌, ◌≤◌, ◌+◌, ◌-◌, ◌*◌, ◌^◌, ◌++◌, ◌⊎◌, List, [], ◌∷◌, suc, length, slice_index, slice_index_or}
use Rattle.fx_demands.specs.declared.forbidden_list.ForbiddenVector.{ForbiddenVector}
use Rattle.fx_demands.specs.EffectVectors.{last_factor}
use Rattle.fx_barred.specs.FirstWords.{sum_to, vector_at, HasSum, IsFirst}
use Rattle.fx_barred.specs.Reached.{ReachedView}

-- vector k has its last factor after the first i rows
pub record HasLast (words : List ForbiddenVector) (i k : ℕ) : Type 0 where
  pub there : k < length words
  pub last : last_factor (vector_at words k) ≡ i + 1

-- vectors p and k have the same sum over the first d rows, and the same codes after them and before i
pub record AreAlike (q m : ℕ) (rows : List ℕ) (words : List ForbiddenVector) (i d p k : ℕ) : Type 0 where
  pub sum : sum_to q m rows (vector_at words p) d ≡ sum_to q m rows (vector_at words k) d
  pub codes : (x : ℕ) → d ≤ x → x < i → slice_index (vector_at words p) x ≡ slice_index (vector_at words k) x

-- one of the first `count` of these places, not after k, has a vector like that at k
pub record IsStoodFor (q m : ℕ) (rows : List ℕ) (words : List ForbiddenVector) (i d : ℕ) (at : ℕ → ℕ) (count k : ℕ)
    : Type 0 where
  pub index : ℕ
  pub low : index < count
  pub before : at index ≤ k
  pub alike : AreAlike q m rows words i d (at index) k

-- so many places rise, and stand for all vectors with their last factor after the first i rows
pub record StandFor (q m : ℕ) (rows : List ℕ) (words : List ForbiddenVector) (i d : ℕ) (at : ℕ → ℕ) (count : ℕ)
    : Type 0 where
  pub each : (x : ℕ) → x < count → HasLast words i (at x)
  pub rising : (x y : ℕ) → x < y → y < count → at x < at y
  pub all : (k : ℕ) → HasLast words i k → IsStoodFor q m rows words i d at count k

-- the place at j of a list, where an empty one has all from `start` on
abbrev pub place_at : List ℕ → ℕ → ℕ → ℕ
place_at [] start j = start + j
place_at (p ∷ list) start j = slice_index (p ∷ list) j

-- how many it has, where an empty one has those from `start` to before `end`
abbrev pub place_count : List ℕ → ℕ → ℕ → ℕ
place_count [] start end = end - start
place_count (p ∷ list) start end = length (p ∷ list)

-- what vector p was made of vectors k and p, with a table that has one more than p where they are alike
pub record IsKnown (words : List ForbiddenVector) (d n known k : ℕ) : Type 0 where
  pub place : ℕ
  pub one_more : known ≡ suc place
  pub codes : (x : ℕ) → d ≤ x → x < n → slice_index (vector_at words place) x ≡ slice_index (vector_at words k) x

-- the table from place `first` on has for each sum of the first j of these places the first vector of all, or 0
pub record ArePlaced (q m : ℕ) (rows : List ℕ) (words : List ForbiddenVector) (i : ℕ) (at : ℕ → ℕ) (j first : ℕ)
    (tables : List ℕ) : Type 0 where
  pub none : (y : ℕ) → y < q ^ m → slice_index tables (first + y) ≡ 0
      → (x : ℕ) → x < j → HasSum q m rows words i y (at x) → ⊥
  pub some : (y k : ℕ) → y < q ^ m → slice_index tables (first + y) ≡ suc k → IsFirst q m rows words i y k

-- a list of the first j of these places that stands for them, with for each sum in the table from place `first` on one
-- more than a place of the list that has it over the first d rows, or 0
pub record IsListed (q m : ℕ) (rows : List ℕ) (words : List ForbiddenVector) (i d : ℕ) (at : ℕ → ℕ) (count j first : ℕ)
    (tables list : List ℕ) : Type 0 where
  pub each : (x : ℕ) → x < length list → HasLast words i (slice_index list x)
  pub rising : (x y : ℕ) → x < y → y < length list → slice_index list x < slice_index list y
  pub below : (x y : ℕ) → x < length list → j ≤ y → y < count → slice_index list x < at y
  pub all : (x : ℕ) → x < j → IsStoodFor q m rows words i d (slice_index list) (length list) (at x)
  pub seen : (y p : ℕ) → y < q ^ m → slice_index tables (first + y) ≡ suc p
      → (x : ℕ) × (x < length list) × (slice_index list x ≡ p) × (sum_to q m rows (vector_at words p) d ≡ y)

-- place k is known, and all stays, or it was added
abbrev pub IsAdded : List ForbiddenVector → ℕ → ℕ → ℕ → ℕ → ℕ → List ℕ → List ℕ → Type 0
IsAdded words d n k old new list longer =
    ((new ≡ old) × (longer ≡ list) × IsKnown words d n old k) ⊎ ((new ≡ k + 1) × (longer ≡ list ++ k ∷ []))

-- the vectors with their last factor after the first i rows stand from `start` to before `end`
pub record IsRange (words : List ForbiddenVector) (i start end : ℕ) : Type 0 where
  pub le : start ≤ end
  pub within : (k : ℕ) → HasLast words i k → (start ≤ k) × (k < end)
  pub has : (k : ℕ) → start ≤ k → k < end → HasLast words i k

-- list l for the first i rows, where it has places: it took all of these rows but the last 16 - 4 l into its sums, and
-- of the rows so far there are as many
pub record IsList (reached : ReachedView) (words : List ForbiddenVector) (i l : ℕ) (list : List ℕ) : Type 0 where
  pub some : 0 < length list → 0 < l
  pub within : 0 < length list → i ≤ length reached.rows + (16 - 4 * l)
  pub stand : 0 < length list
      → StandFor reached.q reached.m reached.rows words i (i - (16 - 4 * l)) (slice_index list) (length list)

-- four lists for each number of rows
pub record AreLists (reached : ReachedView) (words : List ForbiddenVector) (lists : List (List ℕ)) : Type 0 where
  pub len : length lists ≡ 4 * reached.room
  pub each : (i l : ℕ) → i < reached.room → l < 4 → IsList reached words i l (slice_index_or lists (4 * i + l) [])

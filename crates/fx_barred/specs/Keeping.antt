-- Places of forbidden vectors that stand for all that have their last factor right after some rows, whatever the first
-- of these rows are.
use Rattle.std.specs.Prelude.{ℕ, ◌≡◌, ◌<◌, ◌≤◌, ◌++◌, ◌⊎◌, List, [], ◌∷◌, length, slice_index, slice_index_or}
use Rattle.fx_demands.specs.declared.forbidden_list.ForbiddenVector.{ForbiddenVector}
use Rattle.fx_barred.specs.declared.kept.Kept.{Kept}
use Rattle.fx_barred.specs.FirstWords.{sum_to, vector_at}
use Rattle.fx_barred.specs.Places.{HasLast}

-- vectors p and k have the same codes on the first d rows, and the same sum over all i
pub record AreAlikeBefore (q m : ℕ) (rows : List ℕ) (words : List ForbiddenVector) (i d p k : ℕ) : Type 0 where
  pub sum : sum_to q m rows (vector_at words p) i ≡ sum_to q m rows (vector_at words k) i
  pub codes : (x : ℕ) → x < d → slice_index (vector_at words p) x ≡ slice_index (vector_at words k) x

-- one of the first `count` of these places, not after k, has a vector like that at k
pub record IsStoodBefore (q m : ℕ) (rows : List ℕ) (words : List ForbiddenVector) (i d : ℕ) (at : ℕ → ℕ) (count k : ℕ)
    : Type 0 where
  pub index : ℕ
  pub low : index < count
  pub before : at index ≤ k
  pub alike : AreAlikeBefore q m rows words i d (at index) k

-- so many places rise, and stand for all vectors with their last factor after the first i rows
pub record StandBefore (q m : ℕ) (rows : List ℕ) (words : List ForbiddenVector) (i d : ℕ) (at : ℕ → ℕ) (count : ℕ)
    : Type 0 where
  pub each : (x : ℕ) → x < count → HasLast words i (at x)
  pub rising : (x y : ℕ) → x < y → y < count → at x < at y
  pub all : (k : ℕ) → HasLast words i k → IsStoodBefore q m rows words i d at count k

-- a list stands for the vectors from place `start` on and before place k
pub record IsListedBefore (q m : ℕ) (rows : List ℕ) (words : List ForbiddenVector) (i d start k : ℕ) (list : List ℕ)
    : Type 0 where
  pub each : (x : ℕ) → x < length list → HasLast words i (slice_index list x)
  pub rising : (x y : ℕ) → x < y → y < length list → slice_index list x < slice_index list y
  pub below : (x : ℕ) → x < length list → slice_index list x < k
  pub all : (p : ℕ) → start ≤ p → p < k → IsStoodBefore q m rows words i d (slice_index list) (length list) p

-- one of a list has a vector like that at k
abbrev pub IsStoodByOne : ℕ → ℕ → List ℕ → List ForbiddenVector → ℕ → ℕ → List ℕ → ℕ → Type 0
IsStoodByOne q m rows words i d list k =
    (x : ℕ) × (x < length list) × AreAlikeBefore q m rows words i d (slice_index list x) k

-- place k is stood for, and the list stays
pub record IsStoodIn (q m : ℕ) (rows : List ℕ) (words : List ForbiddenVector) (i d k : ℕ) (list longer : List ℕ)
    : Type 0 where
  pub same : longer ≡ list
  pub one : IsStoodByOne q m rows words i d list k

-- or it was added
abbrev pub IsAddedBefore : ℕ → ℕ → List ℕ → List ForbiddenVector → ℕ → ℕ → ℕ → List ℕ → List ℕ → Type 0
IsAddedBefore q m rows words i d k list longer =
    IsStoodIn q m rows words i d k list longer ⊎ (longer ≡ list ++ k ∷ [])

-- what is kept for the first i rows, where there are places
abbrev pub IsKept : ℕ → ℕ → List ForbiddenVector → ℕ → Kept → Type 0
IsKept q m words i kept =
    0 < length kept.list → StandBefore q m kept.rows words i kept.depth (slice_index kept.list) (length kept.list)

-- for each number of rows
pub record AreKept (q m room : ℕ) (words : List ForbiddenVector) (kept : List Kept) : Type 0 where
  pub len : length kept ≡ room
  pub each : (i : ℕ) (d : Kept) → i < length kept → IsKept q m words i (slice_index_or kept i d)

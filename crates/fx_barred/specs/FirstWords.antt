-- For each sum that a point can bring to zero, the first of the forbidden vectors that have it over the rows so far.
use Rattle.std.specs.Prelude.{ℕ, zero, suc, ◌≡◌, ◌<◌, ◌≤◌, ◌+◌, ◌*◌, ◌^◌, List, [], map, length, slice_index}
use Rattle.std.specs.Prelude.{slice_index_or, All}
use Rattle.fx_designs.specs.Vectors.{IsVector}
use Rattle.fx_demands.specs.declared.forbidden_list.ForbiddenVector.{ForbiddenVector}
use Rattle.fx_demands.specs.EffectVectors.{last_factor, sorting_class, IsInOrder}
use Rattle.fx_barred.specs.Reach.{with_row}
use Rattle.fx_barred.specs.Reached.{ReachedView}

-- the sum of the first i rows, each times the code of v at its place
abbrev pub sum_to : ℕ → ℕ → List ℕ → List ℕ → ℕ → ℕ
sum_to q m rows v zero = 0
sum_to q m rows v (suc j) = with_row q m rows j (sum_to q m rows v j) (slice_index v j)

-- the vector at place k of a list
abbrev pub vector_at : List ForbiddenVector → ℕ → List ℕ
vector_at words k = slice_index_or (map (λ word. word.vector) words) k []

-- vector k has its last factor after the first i rows, and over these the sum y
pub record HasSum (q m : ℕ) (rows : List ℕ) (words : List ForbiddenVector) (i y k : ℕ) : Type 0 where
  pub there : k < length words
  pub last : last_factor (vector_at words k) ≡ i + 1
  pub sum : sum_to q m rows (vector_at words k) i ≡ y

-- and it is the first
pub record IsFirst (q m : ℕ) (rows : List ℕ) (words : List ForbiddenVector) (i y k : ℕ) : Type 0 where
  pub here : HasSum q m rows words i y k
  pub none_before : (j : ℕ) → j < k → HasSum q m rows words i y j → ⊥

-- none has it, of those before a bound
pub record HasNone (q m : ℕ) (rows : List ℕ) (words : List ForbiddenVector) (i y bound : ℕ) : Type 0 where
  pub none : (k : ℕ) → k < bound → HasSum q m rows words i y k → ⊥

-- the table from place `first` on has for each sum one more than the first such vector before a bound, or 0
pub record AreFirst (q m : ℕ) (rows : List ℕ) (words : List ForbiddenVector) (i bound first : ℕ)
    (tables : List ℕ) : Type 0 where
  pub none : (y : ℕ) → y < q ^ m → slice_index tables (first + y) ≡ 0 → HasNone q m rows words i y bound
  pub some : (y k : ℕ) → y < q ^ m → slice_index tables (first + y) ≡ suc k → IsFirst q m rows words i y k

-- vectors over s factors, with their classes, in order
pub record AreWords (q s : ℕ) (words : List ForbiddenVector) : Type 0 where
  pub each : All (λ word. IsVector q s word.vector × (word.class ≡ sorting_class word.vector)) words
  pub in_order : IsInOrder words

-- what clauses see: rows of m codes of a field, at most `room` of them, and forbidden vectors over so many factors
pub record FirstWordsView : Type 0 where
  pub q : ℕ
  pub m : ℕ
  pub room : ℕ
  pub words : List ForbiddenVector
  pub rows : List ℕ

-- there is a table for each number of rows up to that of the rows so far
pub record AreFirstWords (reached : ReachedView) (words : List ForbiddenVector) (tables : List ℕ) : Type 0 where
  pub words_are : AreWords reached.q reached.room words
  pub tables_len : length tables ≡ reached.room * reached.q ^ reached.m
  pub first : (i : ℕ) → i ≤ length reached.rows → i < reached.room
      → AreFirst reached.q reached.m reached.rows words i (length words) (i * reached.q ^ reached.m) tables

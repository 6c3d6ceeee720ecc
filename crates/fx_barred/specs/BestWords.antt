-- Over factor rows and block rows: for each point the best word that brings it to zero, of those that are forbidden
-- with the code 1 for a block row to come.
use Rattle.std.specs.Prelude.{ℕ, ◌≡◌, ◌<◌, ◌≤◌, ◌+◌, ◌^◌, ◌⊎◌, ◌==◌, ◌&&◌, ◌||◌, nat_lt, nat_le, Bool, true}
use Rattle.std.specs.Prelude.{if◌then◌else◌, List, take, length, slice_index_or, Option, Some, None}
use Rattle.fx_designs.specs.Galois.{number}
use Rattle.fx_designs.specs.Vectors.{IsVector, weight, is_zero}
use Rattle.fx_designs.specs.Problems.{Dimensions, Requirement}
use Rattle.fx_designs.specs.Demands.{is_estimated}
use Rattle.fx_points.specs.Sums.{sum_of}
use Rattle.fx_barred.specs.FirstWords.{sum_to}
use Rattle.fx_barred.specs.declared.best_words.Best.{Best}

-- a vector over the rows that brings x to zero, and is zero or one to be estimated on the factors
pub record BringsToZero (d : Dimensions) (wanted : Requirement) (rows : List ℕ) (x : ℕ) (u : List ℕ) : Type 0 where
  pub vector : IsVector d.q (length rows) u
  pub factors : (is_zero (take d.s u) || is_estimated wanted (take d.s u)) ≡ true
  pub sum : sum_of d.q 1 d.m (sum_to d.q d.m rows u (length rows)) x ≡ 0

-- u has less weight than v, or the same weight and no less a number
abbrev pub IsNoWorseWord : ℕ → List ℕ → List ℕ → Type 0
IsNoWorseWord q u v = (weight u < weight v) ⊎ ((weight u ≡ weight v) × (number q v ≤ number q u))

-- a word of this weight and number has a property, and of those that have it none is better
pub record IsBestWord (P : List ℕ → Type 0) (q : ℕ) (best : Best) : Type 0 where
  pub word : List ℕ
  pub holds : P word
  pub weighs : weight word ≡ best.weight
  pub counts : number q word ≡ best.number
  pub none_better : (v : List ℕ) → P v → IsNoWorseWord q word v

-- the best word that has a property, or that none has it
abbrev pub IsBestOf : (List ℕ → Type 0) → ℕ → Option Best → Type 0
IsBestOf P q None = (v : List ℕ) → P v → ⊥
IsBestOf P q (Some best) = IsBestWord P q best

-- the best word that brings x to zero
abbrev pub IsBest : Dimensions → Requirement → List ℕ → ℕ → Option Best → Type 0
IsBest d wanted rows x best = IsBestOf (BringsToZero d wanted rows x) d.q best

-- the table from place `first` on has it for each point
abbrev pub AreBest : Dimensions → Requirement → List ℕ → ℕ → List (Option Best) → Type 0
AreBest d wanted rows first tables =
    (x : ℕ) → x < d.q ^ d.m → IsBest d wanted rows x (slice_index_or tables (first + x) None)

-- whether the second is better, or as good
abbrev pub is_better : Best → Best → Bool
is_better a b = nat_lt b.weight a.weight || ((b.weight == a.weight) && nat_le a.number b.number)

-- the better of two
abbrev pub preferred : Option Best → Option Best → Option Best
preferred None b = b
preferred (Some a) None = Some a
preferred (Some a) (Some b) = (if is_better a b then Some b else Some a)

-- a word with one code more, which adds this to its number
abbrev pub with_code : Option Best → ℕ → Option Best
with_code None added = None
with_code (Some b) added = Some (record { weight = b.weight + 1; number = b.number + added })

-- a word over n rows: its number has at most so many digits, and its weight is small
abbrev pub IsWithin : ℕ → ℕ → Option Best → Type 0
IsWithin q n None = Unit {0}
IsWithin q n (Some b) = (b.weight ≤ n + 100) × (b.number < q ^ n)

-- of the table from place `first` on each is
abbrev pub AreWithin : ℕ → ℕ → ℕ → ℕ → List (Option Best) → Type 0
AreWithin q m n first tables = (x : ℕ) → x < q ^ m → IsWithin q n (slice_index_or tables (first + x) None)

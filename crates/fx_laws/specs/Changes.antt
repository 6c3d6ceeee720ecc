-- Changes of the run indexes, and rows whose first independent ones are unit vectors.
use Rattle.std.specs.Prelude.{ℕ, ◌≡◌, ◌<◌, ◌⊎◌, List, [], ◌∷◌, zero, suc}
use Rattle.fx_designs.specs.Vectors.{plus, scale, zeros, IsVector}

-- an invertible change of the run indexes, as what it makes of each row
pub record IsChange (q m : ℕ) (change : List ℕ → List ℕ) : Type 0 where
  pub vector : (v : List ℕ) → IsVector q m v → IsVector q m (change v)
  pub sums : (v w : List ℕ) → IsVector q m v → IsVector q m w → change (plus q v w) ≡ plus q (change v) (change w)
  pub multiples : (c : ℕ) (v : List ℕ) → IsVector q m v → change (scale q c v) ≡ scale q c (change v)
  pub zero_alone : (v : List ℕ) → IsVector q m v → change v ≡ zeros m → v ≡ zeros m

-- the unit vector of length m with its 1 at place k
abbrev pub unit : ℕ → ℕ → List ℕ
unit zero k = []
unit (suc m) zero = 1 ∷ zeros m
unit (suc m) (suc k) = 0 ∷ unit m k

-- v has only zeros from place k on
abbrev pub IsShort : ℕ → List ℕ → Type 0
IsShort zero [] = Unit {0}
IsShort zero (a ∷ v) = (a ≡ 0) × IsShort zero v
IsShort (suc k) [] = Unit {0}
IsShort (suc k) (a ∷ v) = IsShort k v

-- from rank k on, each row is short or the next unit vector, up to the rank n
abbrev pub IsFormedTo : ℕ → ℕ → List (List ℕ) → ℕ → Type 0
IsFormedTo m k [] n = k ≡ n
IsFormedTo m k (r ∷ rows) n =
    (IsShort k r × IsFormedTo m k rows n) ⊎ ((k < m) × (r ≡ unit m k) × IsFormedTo m (suc k) rows n)

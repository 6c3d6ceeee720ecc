-- Directions of the differences of a plan: for each factor a vector over the factors, zero where the factor is not
-- basic.
use Rattle.std.specs.Prelude.{ℕ, suc, ◌≡◌, ◌<◌, ◌^◌, ◌==◌, Bool, true, false, List, [], ◌∷◌, map, get_or, slice_set}
use Rattle.std.specs.Prelude.{count_by}
use Rattle.fx_designs.specs.Galois.{inv, neg, number}
use Rattle.fx_designs.specs.Vectors.{combination, plus, scale, zeros}

-- entry i of each row
abbrev pub column : ℕ → List (List ℕ) → List ℕ
column i rows = map (λ r. get_or r i 0) rows

-- how far d is off what the directions make of it
abbrev pub off_of : ℕ → ℕ → List (List ℕ) → List ℕ → List ℕ
off_of q s rows d = plus q d (scale q (neg q 1) (combination q s d rows))

-- its multiple that is 1 at i
abbrev pub new_direction : ℕ → ℕ → List ℕ → ℕ → List ℕ
new_direction q s off i = plus q (zeros s) (scale q (inv q (get_or off i 0)) off)

-- a direction without its part along e
abbrev pub without_part : ℕ → List ℕ → ℕ → List ℕ → List ℕ
without_part q e i r = plus q r (scale q (neg q (get_or r i 0)) e)

-- the directions with e as that of factor i
abbrev pub grown : ℕ → List (List ℕ) → List ℕ → ℕ → List (List ℕ)
grown q rows e i = slice_set (map (without_part q e i) rows) i e

-- the codes of v at the marked places
abbrev pub at : List Bool → List ℕ → List ℕ
at [] v = []
at (m ∷ marks) [] = []
at (true ∷ marks) (c ∷ v) = c ∷ at marks v
at (false ∷ marks) (c ∷ v) = at marks v

-- how many places are marked
abbrev pub rank : List Bool → ℕ
rank [] = 0
rank (true ∷ marks) = suc (rank marks)
rank (false ∷ marks) = rank marks

-- the number of the codes at the marked places
abbrev pub basic_key : ℕ → List Bool → List ℕ → ℕ
basic_key q marks v = number q (at marks v)

-- each combination of codes at the marked places comes equally often
pub record AreEven (q : ℕ) (marks : List Bool) (differences : List (List ℕ)) : Type 0 where
  pub each : (z : ℕ) → z < q ^ rank marks
      → count_by (λ d. basic_key q marks d == z) differences ≡ count_by (λ d. basic_key q marks d == 0) differences

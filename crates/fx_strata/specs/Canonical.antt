-- Canonical designs: the base is spanned by the first h unit vectors. The rows of the inside factors are these unit
-- vectors, and then normal rows below q^h that fall; those of the outside factors are the other unit vectors, and then
-- normal rows from q^h on that fall. So they come in two stages. A row is named by its number.
use Rattle.std.specs.Prelude.{ℕ, ◌≡◌, ◌<◌, ◌≤◌, ◌+◌, ◌-◌, ◌^◌, ◌&&◌, ◌⊎◌, not, nat_le, Bool, true, false, List, [], ◌∷◌}
use Rattle.std.specs.Prelude.{◌++◌, map, length, take, drop}
use Rattle.std.specs.List.{range_with_len}
use Rattle.fx_designs.specs.Galois.{digits}
use Rattle.fx_designs.specs.Vectors.{is_normal, vectors_of}
use Rattle.fx_designs.specs.Problems.{Dimensions}
use Rattle.fx_designs.specs.Canonical.{is_unit}
use Rattle.fx_strata.specs.Designs.{Strata, Figures}
use Rattle.fx_strata.specs.Sums.{sums_of, unclear_sums}

abbrev pub dimensions_of : Strata → Dimensions
dimensions_of x = record { q = x.q; m = x.m; s = x.w + x.n; t = 0 }

-- so many unit vectors from one on
abbrev pub units : ℕ → ℕ → ℕ → List ℕ
units q from len = map (λ i. q ^ i) (range_with_len from len)

-- the rows that span the base
abbrev pub base : Strata → List (List ℕ)
base x = vectors_of x.q x.m (units x.q 0 x.h)

-- the words of a canonical design
abbrev pub words : Strata → List ℕ → Bool → ℕ → ℕ
words x rows = sums_of x (base x) (vectors_of x.q x.m rows)

-- its words of two factors that are not clear
abbrev pub unclear : Strata → List ℕ → ℕ
unclear x rows = unclear_sums x (base x) (vectors_of x.q x.m rows)

abbrev pub figures : Strata → List ℕ → Figures
figures x rows = record { words = words x rows; unclear = unclear x rows }

-- a row after the unit vectors of its stage, from one on: normal, no unit vector, and not spanned by the units before
-- that one
abbrev pub is_later : Dimensions → ℕ → ℕ → Bool
is_later d from r = is_normal (digits d.q d.m r) && (not (is_unit d r) && nat_le (d.q ^ from) r)

-- such rows, each less than the one before it
abbrev pub AreLater : Dimensions → ℕ → ℕ → List ℕ → Type 0
AreLater d from bound [] = Unit {0}
AreLater d from bound (r ∷ rows) = (is_later d from r ≡ true) × (r < bound) × AreLater d from r rows

-- the rows of a stage: its unit vectors, and rows in their span that fall
pub record IsStage (d : Dimensions) (from len : ℕ) (rows : List ℕ) : Type 0 where
  pub others : List ℕ
  pub is : rows ≡ units d.q from len ++ others
  pub later : AreLater d from (d.q ^ (from + len)) others

-- a canonical design, by its rows
pub record IsLaid (x : Strata) (rows : List ℕ) : Type 0 where
  pub base : x.h ≤ x.m
  pub len : length rows ≡ x.w + x.n
  pub first : (x.w ≡ 0) ⊎ IsStage (dimensions_of x) 0 x.h (take x.w rows)
  pub second : IsStage (dimensions_of x) x.h (x.m - x.h) (drop x.w rows)

-- one in which no two factors have the same levels
pub record IsDesign (x : Strata) (rows : List ℕ) : Type 0 where
  pub laid : IsLaid x rows
  pub none_of_one : words x rows false 1 ≡ 0
  pub none_of_two : words x rows false 2 ≡ 0

-- Closed examples: a derived factor of A and B, and runs crossed with the plan of a factor N.
use Rattle.std.proofs.Common.{ℕ, ◌≡◌, true, false, List, [], ◌∷◌, map, refl}
use Rattle.std.specs.Prelude.{codes}
use Rattle.fx_derived.specs.Codes.{are_levels_balanced, derived_code, derived_level}
use Rattle.fx_derived.specs.Tables.{TableView, crossed}
use Rattle.fx_derived.specs.Texts.{length_bytes, packed}

-- the four runs of A, B and C = AB
abbrev runs : List (List ℕ)
runs = (0 ∷ 0 ∷ 0 ∷ []) ∷ (0 ∷ 1 ∷ 1 ∷ []) ∷ (1 ∷ 0 ∷ 1 ∷ []) ∷ (1 ∷ 1 ∷ 0 ∷ []) ∷ []

levels : map (derived_level 2 (1 ∷ 2 ∷ [])) runs ≡ 0 ∷ 1 ∷ 2 ∷ 3 ∷ []
levels = refl

turned : map (derived_level 2 (2 ∷ 1 ∷ [])) runs ≡ 0 ∷ 2 ∷ 1 ∷ 3 ∷ []
turned = refl

three_levels : derived_code 3 (2 ∷ 0 ∷ 1 ∷ []) ≡ 19
three_levels = refl

two_factors : are_levels_balanced 2 (1 ∷ 2 ∷ []) runs ≡ true
unfolding are_levels_balanced
two_factors = refl

-- only four of eight levels occur
with_their_word : are_levels_balanced 2 (1 ∷ 2 ∷ 3 ∷ []) runs ≡ false
unfolding are_levels_balanced
with_their_word = refl

abbrev row : List ℕ → List ℕ → List (List ℕ)
row a b = a ∷ b ∷ []

abbrev low : List ℕ
low = codes "-1"

abbrev high : List ℕ
high = codes "1"

abbrev design : TableView
design = record {
  names = row (codes "A") (codes "B");
  rows = row low low ∷ row low high ∷ row high low ∷ row high high ∷ [];
}

abbrev noise : TableView
noise = record { names = codes "N" ∷ []; rows = (low ∷ []) ∷ (high ∷ []) ∷ [] }

-- the named row changes slowest
outside : crossed false design noise ≡ record {
  names = codes "A" ∷ codes "B" ∷ codes "N" ∷ [];
  rows = (low ∷ low ∷ low ∷ []) ∷ (low ∷ high ∷ low ∷ []) ∷ (high ∷ low ∷ low ∷ []) ∷ (high ∷ high ∷ low ∷ [])
      ∷ (low ∷ low ∷ high ∷ []) ∷ (low ∷ high ∷ high ∷ []) ∷ (high ∷ low ∷ high ∷ []) ∷ (high ∷ high ∷ high ∷ []) ∷ [];
}
outside = refl

-- and fastest
inside : crossed true design noise ≡ record {
  names = codes "A" ∷ codes "B" ∷ codes "N" ∷ [];
  rows = (low ∷ low ∷ low ∷ []) ∷ (low ∷ low ∷ high ∷ []) ∷ (low ∷ high ∷ low ∷ []) ∷ (low ∷ high ∷ high ∷ [])
      ∷ (high ∷ low ∷ low ∷ []) ∷ (high ∷ low ∷ high ∷ []) ∷ (high ∷ high ∷ low ∷ []) ∷ (high ∷ high ∷ high ∷ []) ∷ [];
}
inside = refl

long : length_bytes 513 ≡ 255 ∷ 255 ∷ 3 ∷ []
long = refl

packed_row : packed (codes "1" ∷ [] ∷ low ∷ []) ≡ 1 ∷ 49 ∷ 0 ∷ 2 ∷ 45 ∷ 49 ∷ []
packed_row = refl

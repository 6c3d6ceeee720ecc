-- Vectors over GF(q), as lists of codes.
use Rattle.std.specs.Prelude.{ℕ, ◌≡◌, ◌<◌, ◌==◌, ◌&&◌, Bool, true, false, if◌then◌else◌, List, [], ◌∷◌, map, length}
use Rattle.std.specs.Prelude.{replicate, count_by, nat_lt}
use Rattle.std.specs.List.{AllByRecursion}
use Rattle.fx_designs.specs.Galois.{add, mul, neg, digits}

-- v is a vector of n codes
pub record IsVector (q n : ℕ) (v : List ℕ) : Type 0 where
  pub len : length v ≡ n
  pub codes : AllByRecursion (λ c. c < q) v

-- how many entries are not zero
abbrev pub weight : List ℕ → ℕ
weight v = count_by (λ c. nat_lt 0 c) v

-- the last nonzero entry, or 0
abbrev pub last_nonzero : List ℕ → ℕ
last_nonzero [] = 0
last_nonzero (a ∷ v) = (if last_nonzero v == 0 then a else last_nonzero v)

-- the last nonzero entry is 1
abbrev pub is_normal : List ℕ → Bool
is_normal v = last_nonzero v == 1

-- each entry is zero
abbrev pub is_zero : List ℕ → Bool
is_zero v = weight v == 0

-- the same entries
abbrev pub same : List ℕ → List ℕ → Bool
same [] [] = true
same [] (b ∷ w) = false
same (a ∷ v) [] = false
same (a ∷ v) (b ∷ w) = (a == b) && same v w

-- the dot product; entries past the end of the shorter vector count as zeros, so that a vector over the factors leaves
-- out the block values, which stand after the levels
abbrev pub dot : ℕ → List ℕ → List ℕ → ℕ
dot q [] w = 0
dot q (a ∷ v) [] = 0
dot q (a ∷ v) (b ∷ w) = add q (mul q a b) (dot q v w)

-- the sum of two vectors; a shorter one counts as one with zeros at its end
abbrev pub plus : ℕ → List ℕ → List ℕ → List ℕ
plus q [] w = w
plus q (a ∷ v) [] = a ∷ v
plus q (a ∷ v) (b ∷ w) = add q a b ∷ plus q v w

-- c times v
abbrev pub scale : ℕ → ℕ → List ℕ → List ℕ
scale q c v = map (λ a. mul q c a) v

-- u - v
abbrev pub minus : ℕ → List ℕ → List ℕ → List ℕ
minus q u v = plus q u (scale q (neg q 1) v)

-- the vector of n zeros
abbrev pub zeros : ℕ → List ℕ
zeros n = replicate n 0

-- the sum of u_i times row i, of rows of length m; entries and rows that are missing count as zeros
abbrev pub combination : ℕ → ℕ → List ℕ → List (List ℕ) → List ℕ
combination q m [] rows = zeros m
combination q m (a ∷ u) [] = zeros m
combination q m (a ∷ u) (r ∷ rows) = plus q (scale q a r) (combination q m u rows)

-- the vectors that row numbers name: digit i of a number is entry i
abbrev pub vectors_of : ℕ → ℕ → List ℕ → List (List ℕ)
vectors_of q m rows = map (λ r. digits q m r) rows

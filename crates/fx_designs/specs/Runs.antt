-- The runs of a rule matrix, and what is constant or balanced over runs.
use Rattle.std.specs.Prelude.{ℕ, ◌==◌, Bool, List, [], ◌∷◌, map, filter, count_by, drop, zero, suc}
use Rattle.std.specs.List.{flat_map, list_all, list_any, range_with_len}
use Rattle.fx_designs.specs.Galois.{number, codes_of}
use Rattle.fx_designs.specs.Vectors.{dot}

-- every vector of length n: the first entry changes slowest, each from 0 to q-1
abbrev pub points : ℕ → ℕ → List (List ℕ)
points q zero = [] ∷ []
points q (suc n) = flat_map (λ c. map (λ p. c ∷ p) (points q n)) (codes_of q)

-- the levels, and after them the block values, that the rows give at the point p
abbrev pub levels_at : ℕ → List (List ℕ) → List ℕ → List ℕ
levels_at q rows p = map (λ r. dot q r p) rows

-- one run for each point, in the order of the points
unfoldable pub runs_of : ℕ → ℕ → List (List ℕ) → List (List ℕ)
runs_of q m rows = map (λ p. levels_at q rows p) (points q m)

-- u.x has one value on all runs x
unfoldable pub is_constant : ℕ → List ℕ → List (List ℕ) → Bool
is_constant q u runs = list_any (λ c. list_all (λ x. dot q u x == c) runs) (codes_of q)

-- on how many runs u.x is y
abbrev pub count_of : ℕ → List ℕ → ℕ → List (List ℕ) → ℕ
count_of q u y runs = count_by (λ x. dot q u x == y) runs

-- each field value comes equally often as u.x
unfoldable pub is_balanced : ℕ → List ℕ → List (List ℕ) → Bool
is_balanced q u runs =
    list_all (λ y. list_all (λ z. count_of q u y runs == count_of q u z runs) (codes_of q)) (codes_of q)

-- the runs whose block values b, which stand after s levels, have the number z = b_1 + b_2 q + ..
abbrev pub block : ℕ → ℕ → ℕ → List (List ℕ) → List (List ℕ)
block q s z runs = filter (λ x. number q (drop s x) == z) runs

-- each of n blocks, where n is q^t, has equally many runs
unfoldable pub are_blocks_even : ℕ → ℕ → ℕ → List (List ℕ) → Bool
are_blocks_even q s n runs =
    list_all (λ y. list_all (λ z.
    count_by (λ x. number q (drop s x) == y) runs == count_by (λ x. number q (drop s x) == z) runs)
    (range_with_len 0 n)) (range_with_len 0 n)

-- constant inside each of n blocks
unfoldable pub is_constant_in_blocks : ℕ → ℕ → ℕ → List ℕ → List (List ℕ) → Bool
is_constant_in_blocks q s n u runs = list_all (λ z. is_constant q u (block q s z runs)) (range_with_len 0 n)

-- balanced inside each of n blocks
unfoldable pub is_balanced_in_blocks : ℕ → ℕ → ℕ → List ℕ → List (List ℕ) → Bool
is_balanced_in_blocks q s n u runs = list_all (λ z. is_balanced q u (block q s z runs)) (range_with_len 0 n)

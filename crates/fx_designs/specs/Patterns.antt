-- Word-length patterns and resolution (Wu and Hamada), and which pattern is less (minimum aberration, Fries and
-- Hunter).
use Rattle.std.specs.Prelude.{ℕ, ◌==◌, ◌+◌, ◌-◌, ◌/◌, ◌&&◌, ◌||◌, nat_lt, Bool, false, if◌then◌else◌, List, [], ◌∷◌}
use Rattle.std.specs.Prelude.{map, length, take, count_by}
use Rattle.std.specs.List.{range_with_len}
use Rattle.fx_designs.specs.Vectors.{weight, vectors_of}
use Rattle.fx_designs.specs.Runs.{points, is_constant, runs_of}
use Rattle.fx_designs.specs.Problems.{Dimensions}

-- how many vectors of weight k over the factor rows are constant over their runs
unfoldable pub constant_words : ℕ → ℕ → List (List ℕ) → ℕ → ℕ
constant_words q m factors k =
    count_by (λ u. (weight u == k) && is_constant q u (runs_of q m factors)) (points q (length factors))

-- A_1 to A_s, where A_k counts the defining words of weight k, a word and its nonzero multiples once;
-- the factor rows to come have none
unfoldable pub pattern_of : Dimensions → List ℕ → List ℕ
pattern_of d rows =
    map (λ k. constant_words d.q d.m (vectors_of d.q d.m (take d.s rows)) k / (d.q - 1)) (range_with_len 1 d.s)

-- whether the first of two patterns of one length is smaller at the first place where they differ
abbrev pub is_less : List ℕ → List ℕ → Bool
is_less [] b = false
is_less (x ∷ a) [] = false
is_less (x ∷ a) (y ∷ b) = nat_lt x y || ((x == y) && is_less a b)

-- the least k with A_k above 0, or s + 1 where there is none
abbrev pub resolution_of : List ℕ → ℕ
resolution_of [] = 1
resolution_of (x ∷ a) = (if x == 0 then 1 + resolution_of a else 1)

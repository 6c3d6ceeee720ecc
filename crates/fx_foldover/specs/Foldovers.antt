-- The fold-over of a design with two levels: its runs, and after them the same runs with the levels of some factors
-- exchanged (Wu and Hamada). The folded factors are those whose code in a vector over the factors is not 0.
use Rattle.std.specs.Prelude.{ℕ, ◌==◌, ◌+◌, ◌-◌, ◌*◌, ◌&&◌, ◌||◌, if◌then◌else◌, List, [], ◌∷◌, ◌++◌, map, length}
use Rattle.std.specs.Prelude.{count_by}
use Rattle.std.specs.List.{range_with_len}
use Rattle.fx_designs.specs.Vectors.{weight}
use Rattle.fx_designs.specs.Runs.{points, is_constant, runs_of}

-- a run with the levels of the folded factors exchanged: 1 for 0, and 0 for 1
abbrev pub exchanged_run : List ℕ → List ℕ → List ℕ
exchanged_run [] x = x
exchanged_run (f ∷ fold) [] = []
exchanged_run (f ∷ fold) (a ∷ x) = (if f == 0 then a else 1 - a) ∷ exchanged_run fold x

-- the combined plan: the runs in order, and after them the same runs, in the same order, with these levels exchanged
unfoldable pub combined_plan : List ℕ → List (List ℕ) → List (List ℕ)
combined_plan fold runs = runs ++ map (exchanged_run fold) runs

-- how many folded factors a word has
abbrev pub folded_count : List ℕ → List ℕ → ℕ
folded_count [] u = 0
folded_count (f ∷ fold) [] = 0
folded_count (f ∷ fold) (a ∷ u) = (if (f == 0) || (a == 0) then 0 else 1) + folded_count fold u

-- how many vectors of weight k over the factors are constant over the combined plan of a design of m run indexes with
-- these factor rows: from weight 1 on these are the combined words
unfoldable pub combined_words : ℕ → List ℕ → List (List ℕ) → ℕ → ℕ
combined_words m fold factors k =
    count_by (λ u. (weight u == k) && is_constant 2 u (combined_plan fold (runs_of 2 m factors)))
    (points 2 (length factors))

-- B_1 to B_s, where B_k counts the combined words of weight k
unfoldable pub combined_pattern : ℕ → List ℕ → List (List ℕ) → List ℕ
combined_pattern m fold factors = map (combined_words m fold factors) (range_with_len 1 (length factors))

-- the number of a factor's row in a matrix whose runs are the combined plan: one run index more stands first, 0 in the
-- first half and 1 in the second, and its code is 1 where the factor is folded
abbrev pub combined_row : ℕ → ℕ → ℕ
combined_row f r = (if f == 0 then 0 else 1) + 2 * r

-- the numbers of all these rows
abbrev pub combined_rows : List ℕ → List ℕ → List ℕ
combined_rows [] rows = []
combined_rows (f ∷ fold) [] = []
combined_rows (f ∷ fold) (r ∷ rows) = combined_row f r ∷ combined_rows fold rows

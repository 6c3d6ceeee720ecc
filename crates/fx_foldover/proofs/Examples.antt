-- Small cases of the definitions, computed.
use Rattle.std.proofs.Common.{ℕ, ◌≡◌, List, [], ◌∷◌, refl}
use Rattle.fx_designs.specs.Galois.{add, mul, prime_of, degree_of, reduction_of}
use Rattle.fx_designs.specs.Patterns.{constant_words, pattern_of, resolution_of}
use Rattle.fx_designs.specs.Vectors.{vectors_of}
use Rattle.fx_designs.specs.Runs.{is_constant, runs_of}
use Rattle.fx_foldover.specs.Foldovers.{combined_pattern, combined_plan, combined_rows, combined_words, folded_count}
use Rattle.fx_foldover.specs.Laws.{runs_at, two_levels}

-- five factors in eight runs, D = ABC and E = BC: their words are ABCD, BCE and ADE
five_factors : List ℕ
five_factors = 1 ∷ 2 ∷ 4 ∷ 7 ∷ 6 ∷ []

pattern_of_five : pattern_of (two_levels 3 5) five_factors ≡ 0 ∷ 0 ∷ 2 ∷ 1 ∷ 0 ∷ []
unfolding five_factors pattern_of constant_words is_constant runs_of add mul prime_of degree_of reduction_of
pattern_of_five = refl

-- after a full fold ABCD is left, after a fold of A alone BCE, after one of A and D both ABCD and ADE, and after one of
-- no factor all three
folds_of_five :
    (combined_pattern 3 (1 ∷ 1 ∷ 1 ∷ 1 ∷ 1 ∷ []) (vectors_of 2 3 five_factors) ≡ 0 ∷ 0 ∷ 0 ∷ 1 ∷ 0 ∷ [])
    × (combined_pattern 3 (1 ∷ 0 ∷ 0 ∷ 0 ∷ 0 ∷ []) (vectors_of 2 3 five_factors) ≡ 0 ∷ 0 ∷ 1 ∷ 0 ∷ 0 ∷ [])
    × (combined_pattern 3 (1 ∷ 0 ∷ 0 ∷ 1 ∷ 0 ∷ []) (vectors_of 2 3 five_factors) ≡ 0 ∷ 0 ∷ 2 ∷ 1 ∷ 0 ∷ [])
    × (combined_pattern 3 (0 ∷ 0 ∷ 0 ∷ 0 ∷ 0 ∷ []) (vectors_of 2 3 five_factors) ≡ 0 ∷ 0 ∷ 2 ∷ 1 ∷ 0 ∷ [])
unfolding five_factors combined_pattern combined_words combined_plan is_constant runs_of add mul prime_of degree_of
    reduction_of
folds_of_five = (refl, refl, refl, refl)

-- a full fold of seven factors in eight runs, with seven words of weight 3, leaves the seven of weight 4
saturated : List ℕ
saturated = 1 ∷ 2 ∷ 4 ∷ 3 ∷ 5 ∷ 6 ∷ 7 ∷ []

fold_of_saturated :
    combined_pattern 3 (1 ∷ 1 ∷ 1 ∷ 1 ∷ 1 ∷ 1 ∷ 1 ∷ []) (vectors_of 2 3 saturated)
    ≡ 0 ∷ 0 ∷ 0 ∷ 7 ∷ 0 ∷ 0 ∷ 0 ∷ []
unfolding saturated combined_pattern combined_words combined_plan is_constant runs_of add mul prime_of degree_of
    reduction_of
fold_of_saturated = refl

-- four factors in eight runs, D = ABC: their one word is lost where A is folded, and the resolution is that of no words
fold_without_words :
    (combined_pattern 3 (1 ∷ 0 ∷ 0 ∷ 0 ∷ []) (vectors_of 2 3 (1 ∷ 2 ∷ 4 ∷ 7 ∷ [])) ≡ 0 ∷ 0 ∷ 0 ∷ 0 ∷ [])
    × (resolution_of (0 ∷ 0 ∷ 0 ∷ 0 ∷ []) ≡ 5)
unfolding combined_pattern combined_words combined_plan is_constant runs_of add mul prime_of degree_of reduction_of
fold_without_words = (refl, refl)

-- two factors in two runs, of which the second is folded
plan_of_two :
    combined_plan (0 ∷ 1 ∷ []) (runs_at 1 (1 ∷ 1 ∷ [])) ≡ (0 ∷ 0 ∷ []) ∷ (1 ∷ 1 ∷ []) ∷ (0 ∷ 1 ∷ []) ∷ (1 ∷ 0 ∷ []) ∷ []
unfolding combined_plan runs_of add mul prime_of degree_of reduction_of
plan_of_two = refl

-- which is the full factorial of these rows
rows_of_two : combined_rows (0 ∷ 1 ∷ []) (1 ∷ 1 ∷ []) ≡ 2 ∷ 3 ∷ []
rows_of_two = refl

-- any code but 0 folds a factor
folded_in_words :
    (folded_count (1 ∷ 0 ∷ 1 ∷ []) (1 ∷ 1 ∷ 1 ∷ []) ≡ 2) × (folded_count (1 ∷ 0 ∷ 2 ∷ []) (0 ∷ 1 ∷ 1 ∷ []) ≡ 1)
    × (folded_count (0 ∷ 0 ∷ 0 ∷ []) (1 ∷ 1 ∷ 1 ∷ []) ≡ 0)
folded_in_words = (refl, refl, refl)

-- The definitions, computed on small designs whose answers are known, notion by notion.
use Rattle.std.proofs.Common.{ℕ, ◌≡◌, Bool, true, false, [], ◌∷◌, map, Some, None, refl}
use Rattle.fx_designs.specs.Galois.{prime_of, degree_of, reduction_of, add, mul, neg, inv, digits, number, is_order}
use Rattle.fx_designs.specs.Vectors.{weight, last_nonzero, is_normal, is_zero, same, dot, plus, minus, scale}
use Rattle.fx_designs.specs.Vectors.{combination, vectors_of}
use Rattle.fx_designs.specs.Runs.{points, runs_of, is_constant, is_balanced, block, are_blocks_even}
use Rattle.fx_designs.specs.Runs.{is_balanced_in_blocks, is_constant_in_blocks}
use Rattle.fx_designs.specs.Spans.{in_span, rank_of}
use Rattle.fx_designs.specs.Problems.{Dimensions, Requirement, AtResolution, ForEffects, Problem}
use Rattle.fx_designs.specs.Demands.{runs, effect_of, is_of, is_told_from, must_balance, is_estimated, is_met}
use Rattle.fx_designs.specs.Demands.{is_forbidden, padded, is_forbidden_word, is_allowed}
use Rattle.fx_designs.specs.Patterns.{constant_words, pattern_of, resolution_of, is_less}
use Rattle.fx_designs.specs.Canonical.{is_canonical}
use Rattle.fx_designs.specs.Answers.{before, lists, designs, answer}
use Rattle.fx_designs.specs.Closing.{closing_word}
use Rattle.fx_designs.specs.Nodes.{is_beside, counts, excludes, nodes, marks, word_of, Branch, Word, Worse}

abbrev pub size : ℕ → ℕ → ℕ → ℕ → Dimensions
size q m s t = record { q = q; m = m; s = s; t = t }

abbrev pub problem : Dimensions → Requirement → Bool → Problem
problem d wanted least = record { dimensions = d; requirement = wanted; least = least }

-- Fields

-- the powers of x, each x times the one before it: the tables of the fields of 4, 8 and 9 codes
powers_of_x :
    (map (mul 4 2) (1 ∷ 2 ∷ 3 ∷ []) ≡ 2 ∷ 3 ∷ 1 ∷ [])
    × (map (mul 8 2) (1 ∷ 2 ∷ 4 ∷ 3 ∷ 6 ∷ 7 ∷ 5 ∷ []) ≡ 2 ∷ 4 ∷ 3 ∷ 6 ∷ 7 ∷ 5 ∷ 1 ∷ [])
    × (map (mul 9 3) (1 ∷ 3 ∷ 7 ∷ 8 ∷ 2 ∷ 6 ∷ 5 ∷ 4 ∷ []) ≡ 3 ∷ 7 ∷ 8 ∷ 2 ∷ 6 ∷ 5 ∷ 4 ∷ 1 ∷ [])
unfolding prime_of degree_of reduction_of mul
powers_of_x = (refl, refl, refl)

-- sums go digit by digit, and modulo q where q is prime
sums_and_negatives :
    (map (add 4 2) (0 ∷ 1 ∷ 2 ∷ 3 ∷ []) ≡ 2 ∷ 3 ∷ 0 ∷ 1 ∷ [])
    × (add 8 5 3 ≡ 6)
    × (add 9 8 8 ≡ 4)
    × (add 7 5 4 ≡ 2)
    × (map (neg 4) (0 ∷ 1 ∷ 2 ∷ 3 ∷ []) ≡ 0 ∷ 1 ∷ 2 ∷ 3 ∷ [])
    × (neg 9 5 ≡ 7)
    × (neg 5 2 ≡ 3)
unfolding prime_of degree_of add neg
sums_and_negatives = (refl, refl, refl, refl, refl, refl, refl)

-- inverses, with 0 for 0, and numbers above the codes, which are read modulo q
inverses :
    (map (inv 5) (0 ∷ 1 ∷ 2 ∷ 3 ∷ 4 ∷ []) ≡ 0 ∷ 1 ∷ 3 ∷ 2 ∷ 4 ∷ [])
    × (map (inv 4) (0 ∷ 1 ∷ 2 ∷ 3 ∷ []) ≡ 0 ∷ 1 ∷ 3 ∷ 2 ∷ [])
    × (inv 8 2 ≡ 5)
    × (inv 9 3 ≡ 4)
    × (mul 5 7 8 ≡ 1)
    × (add 5 7 8 ≡ 0)
    × (mul 4 6 7 ≡ 1)
unfolding prime_of degree_of reduction_of add mul neg inv
inverses = (refl, refl, refl, refl, refl, refl, refl)

-- digits, the lowest first, and the seven orders
digits_and_orders :
    (digits 3 3 5 ≡ 2 ∷ 1 ∷ 0 ∷ [])
    × (number 3 (2 ∷ 1 ∷ 0 ∷ []) ≡ 5)
    × (map is_order (0 ∷ 1 ∷ 2 ∷ 3 ∷ 4 ∷ 5 ∷ 6 ∷ 7 ∷ 8 ∷ 9 ∷ 10 ∷ 11 ∷ [])
    ≡ false ∷ false ∷ true ∷ true ∷ true ∷ true ∷ false ∷ true ∷ true ∷ true ∷ false ∷ false ∷ [])
digits_and_orders = (refl, refl, refl)

-- Vectors

-- weight, the last entry that is not zero, normal vectors
weights :
    (weight (0 ∷ 2 ∷ 1 ∷ 0 ∷ []) ≡ 2)
    × (last_nonzero (1 ∷ 2 ∷ 0 ∷ []) ≡ 2)
    × (is_normal (2 ∷ 1 ∷ 0 ∷ []) ≡ true)
    × (is_normal (1 ∷ 2 ∷ 0 ∷ []) ≡ false)
    × (is_normal (0 ∷ 0 ∷ []) ≡ false)
    × (is_zero (0 ∷ 0 ∷ []) ≡ true)
    × (is_zero (0 ∷ 2 ∷ []) ≡ false)
    × (same (1 ∷ 2 ∷ []) (1 ∷ 2 ∷ []) ≡ true)
    × (same (1 ∷ 2 ∷ []) (1 ∷ 2 ∷ 0 ∷ []) ≡ false)
    × (same (1 ∷ 2 ∷ 0 ∷ []) (1 ∷ 2 ∷ []) ≡ false)
weights = (refl, refl, refl, refl, refl, refl, refl, refl, refl, refl)

-- dot products, sums and differences; what is missing counts as zeros
products :
    (dot 3 (1 ∷ 2 ∷ []) (2 ∷ 2 ∷ 1 ∷ []) ≡ 0)
    × (dot 4 (2 ∷ 1 ∷ []) (2 ∷ 1 ∷ []) ≡ 2)
    × (dot 3 (1 ∷ 1 ∷ 1 ∷ []) (1 ∷ 1 ∷ []) ≡ 2)
    × (plus 3 (1 ∷ 2 ∷ []) (2 ∷ 2 ∷ 1 ∷ []) ≡ 0 ∷ 1 ∷ 1 ∷ [])
    × (minus 3 (1 ∷ 0 ∷ []) (2 ∷ 2 ∷ []) ≡ 2 ∷ 1 ∷ [])
    × (scale 4 2 (0 ∷ 1 ∷ 2 ∷ 3 ∷ []) ≡ 0 ∷ 2 ∷ 3 ∷ 1 ∷ [])
    × (combination 3 2 (1 ∷ 2 ∷ []) ((1 ∷ 2 ∷ []) ∷ (0 ∷ 1 ∷ []) ∷ []) ≡ 1 ∷ 1 ∷ [])
    × (vectors_of 3 2 (5 ∷ 7 ∷ []) ≡ (2 ∷ 1 ∷ []) ∷ (1 ∷ 2 ∷ []) ∷ [])
unfolding prime_of degree_of reduction_of add mul neg
products = (refl, refl, refl, refl, refl, refl, refl, refl)

-- Runs

-- the first run index changes slowest
order_of_points :
    (points 2 2 ≡ (0 ∷ 0 ∷ []) ∷ (0 ∷ 1 ∷ []) ∷ (1 ∷ 0 ∷ []) ∷ (1 ∷ 1 ∷ []) ∷ [])
    × (points 3 1 ≡ (0 ∷ []) ∷ (1 ∷ []) ∷ (2 ∷ []) ∷ [])
order_of_points = (refl, refl)

-- the nine runs of three three-level factors with C = A^2*B, and four columns of the field of 4, of 8 and of 9 codes
runs_of_rules :
    (runs_of 3 2 ((1 ∷ 0 ∷ []) ∷ (0 ∷ 1 ∷ []) ∷ (2 ∷ 1 ∷ []) ∷ [])
    ≡ (0 ∷ 0 ∷ 0 ∷ []) ∷ (0 ∷ 1 ∷ 1 ∷ []) ∷ (0 ∷ 2 ∷ 2 ∷ []) ∷ (1 ∷ 0 ∷ 2 ∷ []) ∷ (1 ∷ 1 ∷ 0 ∷ []) ∷ (1 ∷ 2 ∷ 1 ∷ [])
    ∷ (2 ∷ 0 ∷ 1 ∷ []) ∷ (2 ∷ 1 ∷ 2 ∷ []) ∷ (2 ∷ 2 ∷ 0 ∷ []) ∷ [])
    × (runs_of 4 1 ((1 ∷ []) ∷ (2 ∷ []) ∷ (3 ∷ []) ∷ [])
    ≡ (0 ∷ 0 ∷ 0 ∷ []) ∷ (1 ∷ 2 ∷ 3 ∷ []) ∷ (2 ∷ 3 ∷ 1 ∷ []) ∷ (3 ∷ 1 ∷ 2 ∷ []) ∷ [])
    × (runs_of 8 1 ((1 ∷ []) ∷ (4 ∷ []) ∷ [])
    ≡ (0 ∷ 0 ∷ []) ∷ (1 ∷ 4 ∷ []) ∷ (2 ∷ 3 ∷ []) ∷ (3 ∷ 7 ∷ []) ∷ (4 ∷ 6 ∷ []) ∷ (5 ∷ 2 ∷ []) ∷ (6 ∷ 5 ∷ [])
    ∷ (7 ∷ 1 ∷ []) ∷ [])
    × (runs_of 9 1 ((1 ∷ []) ∷ (3 ∷ []) ∷ [])
    ≡ (0 ∷ 0 ∷ []) ∷ (1 ∷ 3 ∷ []) ∷ (2 ∷ 6 ∷ []) ∷ (3 ∷ 7 ∷ []) ∷ (4 ∷ 1 ∷ []) ∷ (5 ∷ 4 ∷ []) ∷ (6 ∷ 5 ∷ [])
    ∷ (7 ∷ 8 ∷ []) ∷ (8 ∷ 2 ∷ []) ∷ [])
unfolding prime_of degree_of reduction_of add mul neg runs_of
runs_of_rules = (refl, refl, refl, refl)

-- constant at another value than 0; at two values; balanced only where each value comes, and equally often
constant_and_balanced :
    (is_constant 2 (1 ∷ []) ((1 ∷ []) ∷ (1 ∷ []) ∷ []) ≡ true)
    × (is_constant 3 (1 ∷ 1 ∷ []) ((0 ∷ 2 ∷ []) ∷ (1 ∷ 1 ∷ []) ∷ (2 ∷ 0 ∷ []) ∷ []) ≡ true)
    × (is_constant 2 (1 ∷ []) ((1 ∷ []) ∷ (0 ∷ []) ∷ []) ≡ false)
    × (is_balanced 2 (1 ∷ []) ((0 ∷ []) ∷ (0 ∷ []) ∷ (1 ∷ []) ∷ (1 ∷ []) ∷ []) ≡ true)
    × (is_balanced 3 (1 ∷ []) ((0 ∷ []) ∷ (0 ∷ []) ∷ (1 ∷ []) ∷ (1 ∷ []) ∷ []) ≡ false)
    × (is_balanced 3 (1 ∷ []) ((0 ∷ []) ∷ (1 ∷ []) ∷ (1 ∷ []) ∷ (2 ∷ []) ∷ []) ≡ false)
    × (is_balanced 3 (1 ∷ []) ((0 ∷ []) ∷ (1 ∷ []) ∷ (2 ∷ []) ∷ (2 ∷ []) ∷ []) ≡ false)
unfolding prime_of degree_of reduction_of add mul neg runs_of is_constant is_balanced are_blocks_even
    is_balanced_in_blocks is_constant_in_blocks
constant_and_balanced = (refl, refl, refl, refl, refl, refl, refl)

-- the block of the values (0, 1) has the number 2, at three levels the number 3
blocks_of_runs :
    (block 2 1 2 ((0 ∷ 0 ∷ 1 ∷ []) ∷ (0 ∷ 1 ∷ 0 ∷ []) ∷ []) ≡ (0 ∷ 0 ∷ 1 ∷ []) ∷ [])
    × (block 3 1 3 ((0 ∷ 0 ∷ 1 ∷ []) ∷ (0 ∷ 1 ∷ 0 ∷ []) ∷ []) ≡ (0 ∷ 0 ∷ 1 ∷ []) ∷ [])
    × (are_blocks_even 2 1 2 ((0 ∷ 0 ∷ []) ∷ (0 ∷ 1 ∷ []) ∷ (1 ∷ 0 ∷ []) ∷ (1 ∷ 1 ∷ []) ∷ []) ≡ true)
    × (are_blocks_even 2 1 2 ((0 ∷ 0 ∷ []) ∷ (0 ∷ 0 ∷ []) ∷ (1 ∷ 0 ∷ []) ∷ (1 ∷ 1 ∷ []) ∷ []) ≡ false)
    × (are_blocks_even 2 1 4 ((0 ∷ 0 ∷ 0 ∷ []) ∷ (1 ∷ 0 ∷ 0 ∷ []) ∷ (0 ∷ 1 ∷ 0 ∷ []) ∷ (1 ∷ 1 ∷ 0 ∷ []) ∷ []) ≡ false)
unfolding prime_of degree_of reduction_of add mul neg runs_of is_constant is_balanced are_blocks_even
    is_balanced_in_blocks is_constant_in_blocks
blocks_of_runs = (refl, refl, refl, refl, refl)

-- constant, and balanced, in the first block and not in the second, and the other way round
in_one_block :
    (is_constant_in_blocks 2 1 2 (1 ∷ []) ((0 ∷ 0 ∷ []) ∷ (0 ∷ 0 ∷ []) ∷ (0 ∷ 1 ∷ []) ∷ (1 ∷ 1 ∷ []) ∷ []) ≡ false)
    × (is_constant_in_blocks 2 1 2 (1 ∷ []) ((0 ∷ 0 ∷ []) ∷ (1 ∷ 0 ∷ []) ∷ (0 ∷ 1 ∷ []) ∷ (0 ∷ 1 ∷ []) ∷ []) ≡ false)
    × (is_constant_in_blocks 2 1 2 (1 ∷ []) ((0 ∷ 0 ∷ []) ∷ (0 ∷ 0 ∷ []) ∷ (1 ∷ 1 ∷ []) ∷ (1 ∷ 1 ∷ []) ∷ []) ≡ true)
    × (is_balanced_in_blocks 2 1 2 (1 ∷ []) ((0 ∷ 0 ∷ []) ∷ (0 ∷ 0 ∷ []) ∷ (0 ∷ 1 ∷ []) ∷ (1 ∷ 1 ∷ []) ∷ []) ≡ false)
    × (is_balanced_in_blocks 2 1 2 (1 ∷ []) ((0 ∷ 0 ∷ []) ∷ (1 ∷ 0 ∷ []) ∷ (0 ∷ 1 ∷ []) ∷ (0 ∷ 1 ∷ []) ∷ []) ≡ false)
    × (is_balanced_in_blocks 2 1 2 (1 ∷ []) ((0 ∷ 0 ∷ []) ∷ (1 ∷ 0 ∷ []) ∷ (0 ∷ 1 ∷ []) ∷ (1 ∷ 1 ∷ []) ∷ []) ≡ true)
unfolding prime_of degree_of reduction_of add mul neg runs_of is_constant is_balanced are_blocks_even
    is_balanced_in_blocks is_constant_in_blocks
in_one_block = (refl, refl, refl, refl, refl, refl)

-- eight runs in two blocks by A*B*C: it is constant in each block, and A*B in neither
confounded_with_blocks :
    (is_constant_in_blocks 2 3 2 (1 ∷ 1 ∷ 1 ∷ []) (runs (size 2 3 3 1) (1 ∷ 2 ∷ 4 ∷ 7 ∷ [])) ≡ true)
    × (is_constant_in_blocks 2 3 2 (1 ∷ 1 ∷ 0 ∷ []) (runs (size 2 3 3 1) (1 ∷ 2 ∷ 4 ∷ 7 ∷ [])) ≡ false)
    × (is_balanced_in_blocks 2 3 2 (1 ∷ 1 ∷ 1 ∷ []) (runs (size 2 3 3 1) (1 ∷ 2 ∷ 4 ∷ 7 ∷ [])) ≡ false)
    × (is_balanced_in_blocks 2 3 2 (1 ∷ 1 ∷ 0 ∷ []) (runs (size 2 3 3 1) (1 ∷ 2 ∷ 4 ∷ 7 ∷ [])) ≡ true)
unfolding prime_of degree_of reduction_of add mul neg runs_of is_constant is_balanced are_blocks_even
    is_balanced_in_blocks is_constant_in_blocks
confounded_with_blocks = (refl, refl, refl, refl)

-- Spans

-- sums and multiples of rows are in their span, and add nothing to the rank
spans :
    (in_span 2 3 ((1 ∷ 0 ∷ 0 ∷ []) ∷ (0 ∷ 1 ∷ 0 ∷ []) ∷ []) (1 ∷ 1 ∷ 0 ∷ []) ≡ true)
    × (in_span 2 3 ((1 ∷ 0 ∷ 0 ∷ []) ∷ (0 ∷ 1 ∷ 0 ∷ []) ∷ []) (0 ∷ 0 ∷ 1 ∷ []) ≡ false)
    × (in_span 4 2 ((1 ∷ 2 ∷ []) ∷ []) (2 ∷ 3 ∷ []) ≡ true)
    × (in_span 4 2 ((1 ∷ 2 ∷ []) ∷ []) (2 ∷ 1 ∷ []) ≡ false)
    × (in_span 2 2 [] (0 ∷ 0 ∷ []) ≡ true)
    × (in_span 2 2 [] (1 ∷ 0 ∷ []) ≡ false)
    × (rank_of 2 2 ((1 ∷ 0 ∷ []) ∷ (0 ∷ 1 ∷ []) ∷ (1 ∷ 1 ∷ []) ∷ []) ≡ 2)
    × (rank_of 3 2 ((0 ∷ 0 ∷ []) ∷ (1 ∷ 2 ∷ []) ∷ (2 ∷ 1 ∷ []) ∷ []) ≡ 1)
unfolding prime_of degree_of reduction_of add mul neg in_span
spans = (refl, refl, refl, refl, refl, refl, refl, refl)

-- What is asked of runs and of vectors

-- the effect A*C is the number 5; the mean is of no effect
effects :
    (effect_of (1 ∷ 0 ∷ 2 ∷ []) ≡ 5)
    × (is_of (5 ∷ []) (2 ∷ 0 ∷ 1 ∷ []) ≡ true)
    × (is_of (4 ∷ []) (1 ∷ 0 ∷ 1 ∷ []) ≡ false)
    × (is_of (0 ∷ []) (0 ∷ 0 ∷ []) ≡ false)
effects = (refl, refl, refl, refl)

-- a vector of an effect to be estimated is told from another component of it, from one that is not negligible and from
-- the mean, not from itself; one that is not negligible from nothing
to_be_told :
    (is_told_from (3 ∷ []) [] (1 ∷ 1 ∷ []) (2 ∷ 1 ∷ []) ≡ true)
    × (is_told_from (1 ∷ []) (2 ∷ []) (1 ∷ 0 ∷ []) (0 ∷ 1 ∷ []) ≡ true)
    × (is_told_from (1 ∷ []) (2 ∷ []) (0 ∷ 1 ∷ []) (1 ∷ 0 ∷ []) ≡ false)
    × (is_told_from (1 ∷ []) [] (1 ∷ 0 ∷ []) (0 ∷ 1 ∷ []) ≡ false)
    × (is_told_from (1 ∷ []) [] (1 ∷ 0 ∷ []) (0 ∷ 0 ∷ []) ≡ true)
    × (is_told_from (1 ∷ []) [] (1 ∷ 0 ∷ []) (1 ∷ 0 ∷ []) ≡ false)
to_be_told = (refl, refl, refl, refl, refl, refl)

-- under resolution r the sums of 1 to r-1 factors are balanced, and those of at most (r-1)/2, rounded down, are kept
-- from blocks
by_resolution :
    (must_balance (size 2 3 3 0) (AtResolution 3) (1 ∷ 0 ∷ 0 ∷ []) ≡ true)
    × (must_balance (size 2 3 3 0) (AtResolution 3) (1 ∷ 0 ∷ 1 ∷ []) ≡ true)
    × (must_balance (size 2 3 3 0) (AtResolution 3) (1 ∷ 1 ∷ 1 ∷ []) ≡ false)
    × (must_balance (size 2 3 3 0) (AtResolution 3) (0 ∷ 0 ∷ 0 ∷ []) ≡ false)
    × (is_estimated (AtResolution 3) (1 ∷ 0 ∷ 0 ∷ []) ≡ true)
    × (is_estimated (AtResolution 3) (1 ∷ 1 ∷ 0 ∷ []) ≡ false)
    × (is_estimated (AtResolution 4) (1 ∷ 1 ∷ 0 ∷ []) ≡ false)
    × (is_estimated (AtResolution 5) (1 ∷ 1 ∷ 0 ∷ []) ≡ true)
    × (is_estimated (AtResolution 5) (1 ∷ 1 ∷ 1 ∷ []) ≡ false)
    × (is_estimated (AtResolution 5) (0 ∷ 0 ∷ 0 ∷ []) ≡ false)
unfolding must_balance is_estimated
by_resolution = (refl, refl, refl, refl, refl, refl, refl, refl, refl, refl)

-- for effects the differences are balanced: of A and the mean, of A and B, of the components of A*B at three levels
by_effects :
    (must_balance (size 2 2 2 0) (ForEffects (1 ∷ []) []) (1 ∷ 0 ∷ []) ≡ true)
    × (must_balance (size 2 2 2 0) (ForEffects (1 ∷ []) []) (1 ∷ 1 ∷ []) ≡ false)
    × (must_balance (size 2 2 2 0) (ForEffects (1 ∷ []) (2 ∷ [])) (1 ∷ 1 ∷ []) ≡ true)
    × (must_balance (size 2 2 2 0) (ForEffects (1 ∷ []) (2 ∷ [])) (0 ∷ 1 ∷ []) ≡ false)
    × (must_balance (size 3 2 2 0) (ForEffects (3 ∷ []) []) (1 ∷ 0 ∷ []) ≡ true)
    × (must_balance (size 3 2 2 0) (ForEffects (1 ∷ []) []) (2 ∷ 0 ∷ []) ≡ true)
    × (is_estimated (ForEffects (1 ∷ []) (2 ∷ [])) (1 ∷ 0 ∷ []) ≡ true)
    × (is_estimated (ForEffects (1 ∷ []) (2 ∷ [])) (0 ∷ 1 ∷ []) ≡ false)
unfolding prime_of degree_of reduction_of add mul neg must_balance is_estimated
by_effects = (refl, refl, refl, refl, refl, refl, refl, refl)

-- (f, b) with a sum b of block factors is forbidden where f is zero or to be estimated; with none, where f has to be
-- balanced
forbidden :
    (is_forbidden (size 2 2 2 1) (AtResolution 3) (1 ∷ 0 ∷ []) (1 ∷ []) ≡ true)
    × (is_forbidden (size 2 2 2 1) (AtResolution 3) (1 ∷ 1 ∷ []) (1 ∷ []) ≡ false)
    × (is_forbidden (size 2 2 2 1) (AtResolution 3) (1 ∷ 1 ∷ []) (0 ∷ []) ≡ true)
    × (is_forbidden (size 2 2 2 1) (AtResolution 3) (0 ∷ 0 ∷ []) (1 ∷ []) ≡ true)
    × (is_forbidden (size 2 2 2 1) (AtResolution 3) (0 ∷ 0 ∷ []) (0 ∷ []) ≡ false)
    × (is_forbidden_word (size 2 2 2 1) (AtResolution 3) (1 ∷ 1 ∷ 1 ∷ []) ≡ false)
    × (padded (size 2 2 2 1) (1 ∷ []) ≡ 1 ∷ 0 ∷ 0 ∷ [])
unfolding must_balance is_estimated
forbidden = (refl, refl, refl, refl, refl, refl, refl)

-- five factors in eight runs at resolution 4: the first four rows are allowed, and no fifth is
five_factors :
    (is_allowed (size 2 3 5 0) (AtResolution 4) (1 ∷ 2 ∷ 4 ∷ 7 ∷ []) ≡ true)
    × (is_allowed (size 2 3 5 0) (AtResolution 4) (1 ∷ 2 ∷ 4 ∷ 7 ∷ 6 ∷ []) ≡ false)
    × (is_met (size 2 3 5 0) (AtResolution 4) (1 ∷ 2 ∷ 4 ∷ 7 ∷ 6 ∷ []) ≡ false)
    × (is_allowed (size 2 3 5 0) (AtResolution 4) (1 ∷ 2 ∷ 4 ∷ 7 ∷ 5 ∷ []) ≡ false)
    × (is_met (size 2 3 5 0) (AtResolution 4) (1 ∷ 2 ∷ 4 ∷ 7 ∷ 5 ∷ []) ≡ false)
    × (is_allowed (size 2 3 5 0) (AtResolution 4) (1 ∷ 2 ∷ 4 ∷ 7 ∷ 3 ∷ []) ≡ false)
    × (is_met (size 2 3 5 0) (AtResolution 4) (1 ∷ 2 ∷ 4 ∷ 7 ∷ 3 ∷ []) ≡ false)
unfolding prime_of degree_of reduction_of add mul neg inv runs_of is_constant is_balanced are_blocks_even
    is_balanced_in_blocks is_constant_in_blocks in_span must_balance is_estimated is_met is_allowed constant_words
    pattern_of is_canonical lists designs answer
five_factors = (refl, refl, refl, refl, refl, refl, refl)

-- a factor at one level, and one factor of four, eight and nine levels
one_factor :
    (is_met (size 2 2 2 0) (AtResolution 3) (1 ∷ 0 ∷ []) ≡ false)
    × (is_met (size 4 1 1 0) (AtResolution 3) (1 ∷ []) ≡ true)
    × (is_met (size 8 1 1 0) (AtResolution 3) (1 ∷ []) ≡ true)
    × (is_met (size 9 1 1 0) (AtResolution 3) (1 ∷ []) ≡ true)
    × (is_met (size 4 1 2 0) (AtResolution 3) (1 ∷ 2 ∷ []) ≡ false)
unfolding prime_of degree_of reduction_of add mul neg runs_of is_constant is_balanced are_blocks_even
    is_balanced_in_blocks is_constant_in_blocks must_balance is_estimated is_met
one_factor = (refl, refl, refl, refl, refl)

-- three factors in eight runs in two and four blocks: interactions of block rules count as block effects
in_blocks :
    (is_met (size 2 3 3 1) (AtResolution 3) (1 ∷ 2 ∷ 4 ∷ 7 ∷ []) ≡ true)
    × (is_met (size 2 3 3 1) (AtResolution 3) (1 ∷ 2 ∷ 4 ∷ 4 ∷ []) ≡ false)
    × (is_met (size 2 3 3 1) (AtResolution 3) (1 ∷ 2 ∷ 4 ∷ 0 ∷ []) ≡ false)
    × (is_met (size 2 3 3 2) (AtResolution 3) (1 ∷ 2 ∷ 4 ∷ 6 ∷ 5 ∷ []) ≡ true)
    × (is_met (size 2 3 3 2) (AtResolution 3) (1 ∷ 2 ∷ 4 ∷ 7 ∷ 6 ∷ []) ≡ false)
    × (is_met (size 2 3 3 2) (AtResolution 3) (1 ∷ 2 ∷ 4 ∷ 7 ∷ 5 ∷ []) ≡ false)
    × (is_met (size 2 3 3 2) (AtResolution 3) (1 ∷ 2 ∷ 4 ∷ 7 ∷ 3 ∷ []) ≡ false)
    × (is_canonical (size 2 3 3 2) (AtResolution 3) (1 ∷ 2 ∷ 4 ∷ 6 ∷ 5 ∷ []) ≡ true)
    × (is_canonical (size 2 3 2 1) (AtResolution 3) (1 ∷ 2 ∷ 4 ∷ []) ≡ true)
    × (is_canonical (size 2 3 2 1) (AtResolution 3) (1 ∷ 2 ∷ 7 ∷ []) ≡ false)
    × (is_allowed (size 2 3 3 1) (AtResolution 3) (1 ∷ 2 ∷ 4 ∷ 7 ∷ []) ≡ true)
    × (is_allowed (size 2 3 3 1) (AtResolution 3) (1 ∷ 2 ∷ 4 ∷ 4 ∷ []) ≡ false)
unfolding prime_of degree_of reduction_of add mul neg inv runs_of is_constant is_balanced are_blocks_even
    is_balanced_in_blocks is_constant_in_blocks in_span must_balance is_estimated is_met is_allowed constant_words
    pattern_of is_canonical lists designs answer
in_blocks = (refl, refl, refl, refl, refl, refl, refl, refl, refl, refl, refl, refl)

-- at resolution 4 an interaction may be confounded with blocks, at resolution 5 it may not; each block has equally
-- many runs
more_blocks :
    (is_met (size 2 3 3 1) (AtResolution 4) (1 ∷ 2 ∷ 4 ∷ 3 ∷ []) ≡ true)
    × (is_met (size 2 3 3 1) (AtResolution 5) (1 ∷ 2 ∷ 4 ∷ 3 ∷ []) ≡ false)
    × (is_met (size 2 2 1 1) (AtResolution 3) (1 ∷ 0 ∷ []) ≡ false)
    × (is_met (size 2 3 1 2) (AtResolution 3) (1 ∷ 2 ∷ 2 ∷ []) ≡ false)
    × (is_met (size 3 2 1 1) (AtResolution 3) (1 ∷ 3 ∷ []) ≡ true)
    × (is_met (size 3 2 1 1) (AtResolution 3) (1 ∷ 2 ∷ []) ≡ false)
unfolding prime_of degree_of reduction_of add mul neg runs_of is_constant is_balanced are_blocks_even
    is_balanced_in_blocks is_constant_in_blocks must_balance is_estimated is_met
more_blocks = (refl, refl, refl, refl, refl, refl)

-- effects: of A, B, C and A*B, nothing is asked of D; two main effects in two runs are aliased
for_effects :
    (is_met (size 2 3 4 0) (ForEffects (1 ∷ 2 ∷ 4 ∷ 3 ∷ []) ([])) (1 ∷ 2 ∷ 4 ∷ 7 ∷ []) ≡ true)
    × (is_met (size 2 3 4 0) (ForEffects (1 ∷ 2 ∷ 4 ∷ 3 ∷ []) ([])) (1 ∷ 2 ∷ 3 ∷ 4 ∷ []) ≡ false)
    × (is_canonical (size 2 3 4 0) (ForEffects (1 ∷ 2 ∷ 4 ∷ 3 ∷ []) ([])) (1 ∷ 2 ∷ 4 ∷ 0 ∷ []) ≡ true)
    × (is_met (size 2 2 3 0) (ForEffects (1 ∷ []) (2 ∷ 4 ∷ [])) (1 ∷ 2 ∷ 0 ∷ []) ≡ true)
    × (is_met (size 2 2 3 0) (ForEffects (1 ∷ []) (2 ∷ 4 ∷ [])) (1 ∷ 2 ∷ 1 ∷ []) ≡ false)
    × (answer (problem (size 2 1 2 0) (ForEffects (1 ∷ 2 ∷ []) ([])) false) ≡ None)
    × (answer (problem (size 2 1 1 0) (AtResolution 3) false) ≡ Some (1 ∷ []))
    × (is_canonical (size 2 2 2 0) (ForEffects (1 ∷ []) ([])) (0 ∷ []) ≡ false)
    × (is_canonical (size 2 1 2 0) (ForEffects (1 ∷ []) ([])) (0 ∷ []) ≡ true)
unfolding prime_of degree_of reduction_of add mul neg inv runs_of is_constant is_balanced are_blocks_even
    is_balanced_in_blocks is_constant_in_blocks in_span must_balance is_estimated is_met is_allowed constant_words
    pattern_of is_canonical lists designs answer
for_effects = (refl, refl, refl, refl, refl, refl, refl, refl, refl)

-- at three levels the two components of A*B are A where B stays at one level, and so cannot be told apart
components_of_one_effect :
    (is_met (size 3 1 2 0) (ForEffects (3 ∷ []) []) (1 ∷ 0 ∷ []) ≡ false)
    × (is_met (size 3 2 2 0) (ForEffects (3 ∷ []) []) (1 ∷ 3 ∷ []) ≡ true)
unfolding prime_of degree_of reduction_of add mul neg runs_of is_constant is_balanced are_blocks_even
    is_balanced_in_blocks is_constant_in_blocks must_balance is_estimated is_met
components_of_one_effect = (refl, refl)

-- effects in blocks: those to be estimated are kept from blocks, those that are not negligible are not
effects_in_blocks :
    (is_met (size 2 2 2 1) (ForEffects (1 ∷ 2 ∷ []) []) (1 ∷ 2 ∷ 3 ∷ []) ≡ true)
    × (is_met (size 2 2 2 1) (ForEffects (1 ∷ 2 ∷ []) []) (1 ∷ 2 ∷ 2 ∷ []) ≡ false)
    × (is_met (size 2 2 2 1) (ForEffects (1 ∷ []) (2 ∷ [])) (1 ∷ 2 ∷ 2 ∷ []) ≡ true)
    × (is_met (size 2 2 2 1) (ForEffects (1 ∷ []) (2 ∷ [])) (1 ∷ 2 ∷ 1 ∷ []) ≡ false)
unfolding prime_of degree_of reduction_of add mul neg runs_of is_constant is_balanced are_blocks_even
    is_balanced_in_blocks is_constant_in_blocks must_balance is_estimated is_met
effects_in_blocks = (refl, refl, refl, refl)

-- Patterns

-- four two-level factors in eight runs: D = A*B*C is of resolution 4, D = B*C of resolution 3
half :
    (is_canonical (size 2 3 4 0) (AtResolution 4) (1 ∷ 2 ∷ 4 ∷ 7 ∷ []) ≡ true)
    × (is_met (size 2 3 4 0) (AtResolution 4) (1 ∷ 2 ∷ 4 ∷ 7 ∷ []) ≡ true)
    × (is_met (size 2 3 4 0) (AtResolution 4) (1 ∷ 2 ∷ 4 ∷ 6 ∷ []) ≡ false)
    × (is_met (size 2 3 4 0) (AtResolution 3) (1 ∷ 2 ∷ 4 ∷ 6 ∷ []) ≡ true)
    × (pattern_of (size 2 3 4 0) (1 ∷ 2 ∷ 4 ∷ 7 ∷ []) ≡ (0 ∷ 0 ∷ 0 ∷ 1 ∷ []))
    × (resolution_of (pattern_of (size 2 3 4 0) (1 ∷ 2 ∷ 4 ∷ 7 ∷ [])) ≡ 4)
    × (resolution_of (pattern_of (size 2 3 4 0) (1 ∷ 2 ∷ 4 ∷ 6 ∷ [])) ≡ 3)
    × (is_less (pattern_of (size 2 3 4 0) (1 ∷ 2 ∷ 4 ∷ 7 ∷ [])) (pattern_of (size 2 3 4 0) (1 ∷ 2 ∷ 4 ∷ 6 ∷ [])) ≡ true)
    × (answer (problem (size 2 3 4 0) (AtResolution 4) false) ≡ Some (1 ∷ 2 ∷ 4 ∷ 7 ∷ []))
unfolding prime_of degree_of reduction_of add mul neg inv runs_of is_constant is_balanced are_blocks_even
    is_balanced_in_blocks is_constant_in_blocks in_span must_balance is_estimated is_met is_allowed constant_words
    pattern_of is_canonical lists designs answer
half = (refl, refl, refl, refl, refl, refl, refl, refl, refl)

-- four three-level factors in nine runs: C = A^2*B, D = A*B
three_levels :
    (is_canonical (size 3 2 4 0) (AtResolution 3) (1 ∷ 3 ∷ 5 ∷ 4 ∷ []) ≡ true)
    × (is_canonical (size 3 2 4 0) (AtResolution 3) (1 ∷ 3 ∷ 8 ∷ 4 ∷ []) ≡ false)
    × (is_met (size 3 2 4 0) (AtResolution 3) (1 ∷ 3 ∷ 5 ∷ 4 ∷ []) ≡ true)
    × (pattern_of (size 3 2 4 0) (1 ∷ 3 ∷ 5 ∷ 4 ∷ []) ≡ (0 ∷ 0 ∷ 4 ∷ 0 ∷ []))
    × (answer (problem (size 3 2 3 0) (AtResolution 3) false) ≡ Some (1 ∷ 3 ∷ 5 ∷ []))
unfolding prime_of degree_of reduction_of add mul neg inv runs_of is_constant is_balanced are_blocks_even
    is_balanced_in_blocks is_constant_in_blocks in_span must_balance is_estimated is_met is_allowed constant_words
    pattern_of is_canonical lists designs answer
three_levels = (refl, refl, refl, refl, refl)

-- three factors of four levels in four runs: by two factors three words, by three factors two, each with its multiples
-- once
words_of_four_levels :
    (pattern_of (size 4 1 3 0) (1 ∷ 2 ∷ 3 ∷ []) ≡ 0 ∷ 3 ∷ 2 ∷ [])
    × (pattern_of (size 4 2 3 0) (1 ∷ 4 ∷ 5 ∷ []) ≡ 0 ∷ 0 ∷ 1 ∷ [])
unfolding prime_of degree_of reduction_of add mul neg runs_of is_constant constant_words pattern_of
words_of_four_levels = (refl, refl)

-- block rows are no factors, and rows to come give no word; without a word the resolution is one more than the factors
words_of_factors :
    (pattern_of (size 2 2 2 1) (1 ∷ 2 ∷ 1 ∷ []) ≡ 0 ∷ 0 ∷ [])
    × (pattern_of (size 2 2 3 0) (1 ∷ 1 ∷ []) ≡ 0 ∷ 1 ∷ 0 ∷ [])
    × (resolution_of (0 ∷ 0 ∷ []) ≡ 3)
    × (resolution_of [] ≡ 1)
    × (resolution_of (0 ∷ 0 ∷ 4 ∷ 1 ∷ []) ≡ 3)
unfolding prime_of degree_of reduction_of add mul neg runs_of is_constant constant_words pattern_of
words_of_factors = (refl, refl, refl, refl, refl)

-- the first difference decides, and equal patterns are not less
less_patterns :
    (is_less (0 ∷ 1 ∷ 9 ∷ []) (0 ∷ 2 ∷ 0 ∷ []) ≡ true)
    × (is_less (0 ∷ 2 ∷ 0 ∷ []) (0 ∷ 1 ∷ 9 ∷ []) ≡ false)
    × (is_less (0 ∷ 1 ∷ []) (0 ∷ 1 ∷ []) ≡ false)
less_patterns = (refl, refl, refl)

-- Canonical prefixes

-- canonical rows: no repeated unit vector, unit vectors in order, no row that is zero, later rows fall
canonical_rows :
    (is_canonical (size 2 3 4 0) (AtResolution 3) (1 ∷ 2 ∷ 4 ∷ 4 ∷ []) ≡ false)
    × (is_canonical (size 2 3 4 0) (AtResolution 3) (2 ∷ 1 ∷ 4 ∷ 7 ∷ []) ≡ false)
    × (is_canonical (size 2 3 4 0) (AtResolution 3) (1 ∷ 2 ∷ 4 ∷ 0 ∷ []) ≡ false)
    × (is_canonical (size 2 3 5 0) (AtResolution 3) (1 ∷ 2 ∷ 4 ∷ 6 ∷ 7 ∷ []) ≡ false)
    × (is_canonical (size 2 3 5 0) (AtResolution 3) (1 ∷ 2 ∷ 4 ∷ 7 ∷ 6 ∷ []) ≡ true)
    × (is_canonical (size 2 3 4 0) (AtResolution 3) (1 ∷ 2 ∷ 4 ∷ 7 ∷ 6 ∷ []) ≡ false)
    × (is_canonical (size 2 3 4 0) (AtResolution 3) (1 ∷ 2 ∷ []) ≡ true)
    × (is_canonical (size 2 3 4 0) (AtResolution 3) (1 ∷ 2 ∷ 8 ∷ []) ≡ false)
unfolding prime_of degree_of reduction_of add mul neg inv runs_of is_constant is_balanced are_blocks_even
    is_balanced_in_blocks is_constant_in_blocks in_span must_balance is_estimated is_met is_allowed constant_words
    pattern_of is_canonical lists designs answer
canonical_rows = (refl, refl, refl, refl, refl, refl, refl, refl)

-- a row outside the span is the next unit vector, also for effects; one inside it is zero or normal; a row is below
-- q^m, and there are no more than s + t
rows_that_follow :
    (is_canonical (size 2 2 2 0) (ForEffects (1 ∷ []) []) (1 ∷ 3 ∷ []) ≡ false)
    × (is_canonical (size 2 2 3 0) (ForEffects (1 ∷ []) []) (1 ∷ 2 ∷ 0 ∷ []) ≡ true)
    × (is_canonical (size 2 2 3 0) (ForEffects (1 ∷ []) []) (1 ∷ 2 ∷ 4 ∷ []) ≡ false)
    × (is_canonical (size 2 2 3 0) (ForEffects (1 ∷ []) []) (1 ∷ 2 ∷ 5 ∷ []) ≡ false)
    × (is_canonical (size 2 2 2 0) (ForEffects (1 ∷ []) []) (1 ∷ 2 ∷ 0 ∷ []) ≡ false)
    × (is_canonical (size 3 1 2 0) (ForEffects (1 ∷ []) []) (1 ∷ 1 ∷ []) ≡ true)
    × (is_canonical (size 3 1 2 0) (ForEffects (1 ∷ []) []) (1 ∷ 2 ∷ []) ≡ false)
    × (is_canonical (size 2 2 3 0) (ForEffects (1 ∷ []) []) (1 ∷ 0 ∷ 2 ∷ []) ≡ true)
    × (is_canonical (size 2 2 3 0) (AtResolution 3) (1 ∷ 0 ∷ 2 ∷ []) ≡ false)
    × (is_canonical (size 2 3 5 0) (AtResolution 3) (1 ∷ 2 ∷ 4 ∷ 7 ∷ 7 ∷ []) ≡ false)
    × (is_canonical (size 2 2 3 0) (ForEffects (1 ∷ []) []) [] ≡ true)
unfolding prime_of degree_of reduction_of add mul neg inv runs_of is_constant is_balanced are_blocks_even
    is_balanced_in_blocks is_constant_in_blocks in_span must_balance is_estimated is_met is_allowed constant_words
    pattern_of is_canonical lists designs answer
rows_that_follow = (refl, refl, refl, refl, refl, refl, refl, refl, refl, refl, refl)

-- block rows need not fall, and do not have to reach the rank
block_rows_that_follow :
    (is_canonical (size 2 2 2 2) (AtResolution 3) (1 ∷ 2 ∷ 1 ∷ 3 ∷ []) ≡ true)
    × (is_canonical (size 2 2 2 1) (ForEffects (1 ∷ []) []) (1 ∷ 1 ∷ 2 ∷ []) ≡ false)
    × (is_canonical (size 2 3 2 1) (AtResolution 3) (1 ∷ 2 ∷ 3 ∷ []) ≡ true)
unfolding prime_of degree_of reduction_of add mul neg inv runs_of is_constant is_balanced are_blocks_even
    is_balanced_in_blocks is_constant_in_blocks in_span must_balance is_estimated is_met is_allowed constant_words
    pattern_of is_canonical lists designs answer
block_rows_that_follow = (refl, refl, refl)

-- Answers

-- lists of rows, the greatest first, a prefix before what begins with it
order_of_lists :
    lists 2 2 ≡ (1 ∷ []) ∷ (1 ∷ 1 ∷ []) ∷ (1 ∷ 0 ∷ []) ∷ (0 ∷ []) ∷ (0 ∷ 1 ∷ []) ∷ (0 ∷ 0 ∷ []) ∷ []
unfolding lists
order_of_lists = refl

-- a least pattern, which may come later in the order than the first design, and the order of lists of rows
in_order :
    (answer (problem (size 2 2 3 0) (AtResolution 3) true) ≡ Some (1 ∷ 2 ∷ 3 ∷ []))
    × (answer (problem (size 2 2 4 0) (ForEffects (7 ∷ 10 ∷ []) ([])) false) ≡ Some (1 ∷ 2 ∷ 2 ∷ 1 ∷ []))
    × (answer (problem (size 2 2 4 0) (ForEffects (7 ∷ 10 ∷ []) ([])) true) ≡ Some (1 ∷ 2 ∷ 1 ∷ 3 ∷ []))
    × (before (1 ∷ 2 ∷ 4 ∷ []) (1 ∷ 2 ∷ 3 ∷ []) ≡ true)
    × (before (1 ∷ 2 ∷ []) (1 ∷ 2 ∷ 3 ∷ []) ≡ true)
    × (before (1 ∷ 2 ∷ []) (1 ∷ 2 ∷ []) ≡ false)
unfolding prime_of degree_of reduction_of add mul neg inv runs_of is_constant is_balanced are_blocks_even
    is_balanced_in_blocks is_constant_in_blocks in_span must_balance is_estimated is_met is_allowed constant_words
    pattern_of is_canonical lists designs answer
in_order = (refl, refl, refl, refl, refl, refl)

-- of six designs that tie in the least pattern the first is the answer; without a design there is none
first_of_the_least :
    (answer (problem (size 2 2 4 0) (ForEffects (1 ∷ []) []) true) ≡ Some (1 ∷ 2 ∷ 3 ∷ 3 ∷ []))
    × (answer (problem (size 3 1 2 0) (ForEffects (3 ∷ []) []) false) ≡ None)
unfolding prime_of degree_of reduction_of add mul neg inv runs_of is_constant is_balanced are_blocks_even
    is_balanced_in_blocks is_constant_in_blocks in_span must_balance is_estimated is_met is_allowed constant_words
    pattern_of is_canonical lists designs answer
first_of_the_least = (refl, refl)

-- Closing words, nodes and marks

-- of the words that close a prefix the lightest is told, and of these the one of greatest number: C*D before A*B*C and
-- A*B*D, and A*D*E before B*C*E
closing_words :
    (closing_word (size 2 2 4 0) (AtResolution 4) (1 ∷ 2 ∷ 3 ∷ 3 ∷ []) ≡ Some (0 ∷ 0 ∷ 1 ∷ 1 ∷ []))
    × (closing_word (size 2 3 5 0) (AtResolution 4) (1 ∷ 2 ∷ 4 ∷ 7 ∷ 6 ∷ []) ≡ Some (1 ∷ 0 ∷ 0 ∷ 1 ∷ 1 ∷ []))
    × (closing_word (size 2 3 5 0) (AtResolution 4) (1 ∷ 2 ∷ 4 ∷ 7 ∷ []) ≡ None)
    × (closing_word (size 3 2 3 0) (AtResolution 4) (1 ∷ 3 ∷ 5 ∷ []) ≡ Some (1 ∷ 2 ∷ 1 ∷ []))
unfolding prime_of degree_of reduction_of add mul neg inv runs_of is_constant is_balanced are_blocks_even
    is_balanced_in_blocks is_constant_in_blocks in_span must_balance is_estimated is_met is_allowed constant_words
    pattern_of is_canonical lists designs answer closing_word word_of nodes marks
closing_words = (refl, refl, refl, refl)

-- two factors in two runs cannot both be estimated: B is refused as A, and as no factor; A as no factor
marks_of_effects :
    (nodes (problem (size 2 1 2 0) (ForEffects (1 ∷ 2 ∷ []) []) false)
    ≡ ((1 ∷ []) ∷ (1 ∷ 1 ∷ []) ∷ (1 ∷ 0 ∷ []) ∷ (0 ∷ []) ∷ []))
    × (marks (problem (size 2 1 2 0) (ForEffects (1 ∷ 2 ∷ []) []) false)
    ≡ (Branch 1 ∷ Word 1 3 ∷ Word 0 2 ∷ Word 0 1 ∷ []))
unfolding prime_of degree_of reduction_of add mul neg inv runs_of is_constant is_balanced are_blocks_even
    is_balanced_in_blocks is_constant_in_blocks in_span must_balance is_estimated is_met is_allowed constant_words
    pattern_of is_canonical lists designs answer closing_word word_of nodes marks
marks_of_effects = (refl, refl)

-- A*B at three levels in three runs: where B is A, its component A^2*B is constant; where B or A is at one level, its
-- components are one
marks_of_components :
    marks (problem (size 3 1 2 0) (ForEffects (3 ∷ []) []) false) ≡ Branch 1 ∷ Word 1 5 ∷ Word 0 3 ∷ Word 0 1 ∷ []
unfolding prime_of degree_of reduction_of add mul neg inv runs_of is_constant is_balanced are_blocks_even
    is_balanced_in_blocks is_constant_in_blocks in_span must_balance is_estimated is_met is_allowed constant_words
    pattern_of is_canonical lists designs answer closing_word word_of nodes marks
marks_of_components = refl

-- three factors in four runs: without a least pattern the nodes end with the design C = A*B
marks_of_a_design :
    (nodes (problem (size 2 2 3 0) (AtResolution 3) false) ≡ ((1 ∷ []) ∷ (1 ∷ 2 ∷ []) ∷ (1 ∷ 2 ∷ 3 ∷ []) ∷ []))
    × (marks (problem (size 2 2 3 0) (AtResolution 3) false) ≡ (Branch 1 ∷ Branch 2 ∷ Worse 3 ∷ []))
    × (marks (problem (size 2 2 3 0) (AtResolution 4) false) ≡ (Branch 1 ∷ Branch 2 ∷ Word 3 7 ∷ []))
    × (marks (problem (size 2 2 3 0) (AtResolution 3) true) ≡ (Branch 1 ∷ Branch 2 ∷ Worse 3 ∷ []))
unfolding prime_of degree_of reduction_of add mul neg inv runs_of is_constant is_balanced are_blocks_even
    is_balanced_in_blocks is_constant_in_blocks in_span must_balance is_estimated is_met is_allowed constant_words
    pattern_of is_canonical lists designs answer closing_word word_of nodes marks
marks_of_a_design = (refl, refl, refl, refl)

-- one factor in four runs in two blocks: the first block row that is tried is the second run index
marks_in_blocks :
    (nodes (problem (size 2 2 1 1) (AtResolution 3) false) ≡ ((1 ∷ []) ∷ (1 ∷ 2 ∷ []) ∷ []))
    × (marks (problem (size 2 1 1 1) (AtResolution 3) false) ≡ (Branch 1 ∷ Word 1 3 ∷ Word 0 2 ∷ []))
unfolding prime_of degree_of reduction_of add mul neg inv runs_of is_constant is_balanced are_blocks_even
    is_balanced_in_blocks is_constant_in_blocks in_span must_balance is_estimated is_met is_allowed constant_words
    pattern_of is_canonical lists designs answer closing_word word_of nodes marks
marks_in_blocks = (refl, refl)

-- the nodes end with the first design, though more prefixes follow
nodes_to_the_answer :
    nodes (problem (size 2 3 4 0) (AtResolution 3) false)
    ≡ ((1 ∷ []) ∷ (1 ∷ 2 ∷ []) ∷ (1 ∷ 2 ∷ 4 ∷ []) ∷ (1 ∷ 2 ∷ 4 ∷ 7 ∷ []) ∷ [])
unfolding prime_of degree_of reduction_of add mul neg inv runs_of is_constant is_balanced are_blocks_even
    is_balanced_in_blocks is_constant_in_blocks in_span must_balance is_estimated is_met is_allowed constant_words
    pattern_of is_canonical lists designs answer closing_word word_of nodes marks
nodes_to_the_answer = refl

-- four factors in eight runs: the first design has the least pattern, and no other is better
marks_of_a_least_pattern :
    marks (problem (size 2 3 4 0) (AtResolution 3) true)
    ≡ (Branch 1 ∷ Branch 2 ∷ Branch 4 ∷ Worse 7 ∷ Worse 6 ∷ Worse 5 ∷ Worse 3 ∷ [])
unfolding prime_of degree_of reduction_of add mul neg inv runs_of is_constant is_balanced are_blocks_even
    is_balanced_in_blocks is_constant_in_blocks in_span must_balance is_estimated is_met is_allowed constant_words
    pattern_of is_canonical lists designs answer closing_word word_of nodes marks
marks_of_a_least_pattern = refl

-- matrices of another job of one's lot do not count
counting :
    (counts (size 2 1 4 0) (1 ∷ 1 ∷ 1 ∷ 1 ∷ []) (1 ∷ 1 ∷ 0 ∷ []) ≡ false)
    × (counts (size 2 1 4 0) (1 ∷ 1 ∷ 1 ∷ 1 ∷ []) (1 ∷ 1 ∷ 1 ∷ 0 ∷ []) ≡ true)
    × (counts (size 2 1 4 0) (1 ∷ 1 ∷ 1 ∷ 1 ∷ []) (1 ∷ 0 ∷ 1 ∷ []) ≡ true)
    × (counts (size 2 1 4 0) (1 ∷ 1 ∷ 1 ∷ 1 ∷ []) (1 ∷ 0 ∷ []) ≡ true)
    × (counts (size 2 1 4 0) (1 ∷ 0 ∷ 1 ∷ 1 ∷ []) (1 ∷ 1 ∷ []) ≡ false)
counting = (refl, refl, refl, refl, refl)

-- with three run indexes a lot has its first four rows in common, and a job its first five
lots_and_jobs :
    (counts (size 2 3 6 0) (1 ∷ 2 ∷ 4 ∷ 7 ∷ 6 ∷ 5 ∷ []) (1 ∷ 2 ∷ 4 ∷ 7 ∷ 5 ∷ []) ≡ false)
    × (counts (size 2 3 6 0) (1 ∷ 2 ∷ 4 ∷ 7 ∷ 6 ∷ 5 ∷ []) (1 ∷ 2 ∷ 4 ∷ 7 ∷ 6 ∷ 3 ∷ []) ≡ true)
    × (counts (size 2 3 6 0) (1 ∷ 2 ∷ 4 ∷ 7 ∷ 6 ∷ 5 ∷ []) (1 ∷ 2 ∷ 4 ∷ 6 ∷ []) ≡ true)
    × (is_beside (size 2 1 4 0) (1 ∷ 1 ∷ 1 ∷ 1 ∷ []) (1 ∷ 1 ∷ []) ≡ true)
    × (is_beside (size 2 1 4 0) (1 ∷ 1 ∷ 1 ∷ 1 ∷ []) (1 ∷ []) ≡ false)
lots_and_jobs = (refl, refl, refl, refl, refl)

-- where a least pattern is asked, a matrix of the same pattern that precedes excludes, one of a greater pattern
-- does not, and none of another job of the lot; else each that precedes does
excluding :
    (excludes (problem (size 2 2 3 0) (AtResolution 3) true) (1 ∷ 2 ∷ 2 ∷ []) (1 ∷ 2 ∷ 1 ∷ []) ≡ true)
    × (excludes (problem (size 2 3 4 0) (AtResolution 3) true) (1 ∷ 2 ∷ 4 ∷ 6 ∷ []) (1 ∷ 2 ∷ 4 ∷ 5 ∷ []) ≡ true)
    × (excludes (problem (size 2 2 3 0) (AtResolution 3) true) (1 ∷ 2 ∷ 0 ∷ []) (1 ∷ 1 ∷ []) ≡ false)
    × (excludes (problem (size 2 2 3 0) (AtResolution 3) false) (1 ∷ 2 ∷ 0 ∷ []) (1 ∷ 1 ∷ []) ≡ true)
    × (excludes (problem (size 2 1 4 0) (AtResolution 3) true) (1 ∷ 1 ∷ 1 ∷ 1 ∷ []) (1 ∷ 1 ∷ 0 ∷ []) ≡ false)
unfolding prime_of degree_of reduction_of add mul neg runs_of is_constant constant_words pattern_of
excluding = (refl, refl, refl, refl, refl)

-- Children, refuting words, alias sets and listed components, computed on small designs whose answers are known.
use Rattle.std.proofs.Common.{ℕ, ◌≡◌, true, false, [], ◌∷◌, map, refl}
use Rattle.fx_designs.specs.Galois.{prime_of, degree_of, reduction_of, add, mul, neg, inv, number}
use Rattle.fx_designs.specs.Vectors.{vectors_of}
use Rattle.fx_designs.specs.Runs.{runs_of, is_constant}
use Rattle.fx_designs.specs.Spans.{in_span}
use Rattle.fx_designs.specs.Problems.{Dimensions, AtResolution, ForEffects}
use Rattle.fx_designs.specs.Demands.{must_balance, is_estimated}
use Rattle.fx_designs.specs.Canonical.{is_canonical}
use Rattle.fx_designs.specs.Children.{next_rows, children}
use Rattle.fx_designs.specs.Closing.{is_zero_sum, refutes}
use Rattle.fx_designs.specs.Components.{components, listed_count}
use Rattle.fx_designs.specs.Aliases.{is_aliased}

abbrev size : ℕ → ℕ → ℕ → ℕ → Dimensions
size q m s t = record { q = q; m = m; s = s; t = t }

-- after the unit vectors of four factors in eight runs come the rows that are no unit vectors, the greatest first;
-- under effects the zero row and repeated rows too
children_of_prefixes :
    (next_rows (size 2 3 4 0) (AtResolution 4) (1 ∷ 2 ∷ 4 ∷ []) ≡ 7 ∷ 6 ∷ 5 ∷ 3 ∷ [])
    × (children (size 2 3 5 0) (AtResolution 4) (1 ∷ 2 ∷ 4 ∷ 6 ∷ [])
    ≡ (1 ∷ 2 ∷ 4 ∷ 6 ∷ 5 ∷ []) ∷ (1 ∷ 2 ∷ 4 ∷ 6 ∷ 3 ∷ []) ∷ [])
    × (next_rows (size 2 1 2 0) (ForEffects (1 ∷ 2 ∷ []) []) [] ≡ 1 ∷ 0 ∷ [])
    × (next_rows (size 2 3 4 0) (AtResolution 4) (1 ∷ 2 ∷ 4 ∷ 7 ∷ []) ≡ [])
unfolding prime_of degree_of reduction_of add mul neg inv in_span is_canonical
children_of_prefixes = (refl, refl, refl, refl)

-- five factors in eight runs at resolution 4: the words 25 and 22 both refute the rows 1, 2, 4, 7, 6; 24 is forbidden
-- and no zero sum; 15, a zero sum, is of weight 4; and 25 says nothing of the first four rows
refuting :
    (refutes (size 2 3 5 0) (AtResolution 4) (1 ∷ 2 ∷ 4 ∷ 7 ∷ 6 ∷ []) (1 ∷ 0 ∷ 0 ∷ 1 ∷ 1 ∷ []) ≡ true)
    × (refutes (size 2 3 5 0) (AtResolution 4) (1 ∷ 2 ∷ 4 ∷ 7 ∷ 6 ∷ []) (0 ∷ 1 ∷ 1 ∷ 0 ∷ 1 ∷ []) ≡ true)
    × (refutes (size 2 3 5 0) (AtResolution 4) (1 ∷ 2 ∷ 4 ∷ 7 ∷ 6 ∷ []) (0 ∷ 0 ∷ 0 ∷ 1 ∷ 1 ∷ []) ≡ false)
    × (refutes (size 2 3 5 0) (AtResolution 4) (1 ∷ 2 ∷ 4 ∷ 7 ∷ 6 ∷ []) (1 ∷ 1 ∷ 1 ∷ 1 ∷ 0 ∷ []) ≡ false)
    × (is_zero_sum (size 2 3 5 0) (1 ∷ 2 ∷ 4 ∷ 7 ∷ 6 ∷ []) (1 ∷ 1 ∷ 1 ∷ 1 ∷ 0 ∷ []) ≡ true)
    × (refutes (size 2 3 5 0) (AtResolution 4) (1 ∷ 2 ∷ 4 ∷ 7 ∷ []) (1 ∷ 0 ∷ 0 ∷ 1 ∷ 1 ∷ []) ≡ false)
unfolding prime_of degree_of reduction_of add mul neg inv must_balance is_estimated
refuting = (refl, refl, refl, refl, refl, refl)

-- C = A*B in four runs: C is aliased with A*B, and not with A; at three levels C = A^2*B, so that A and B*C^2 are
-- multiples of one contrast
alias_sets :
    (is_aliased 2 (runs_of 2 2 (vectors_of 2 2 (1 ∷ 2 ∷ 3 ∷ []))) (0 ∷ 0 ∷ 1 ∷ []) (1 ∷ 1 ∷ 0 ∷ []) ≡ true)
    × (is_aliased 2 (runs_of 2 2 (vectors_of 2 2 (1 ∷ 2 ∷ 3 ∷ []))) (0 ∷ 0 ∷ 1 ∷ []) (1 ∷ 0 ∷ 0 ∷ []) ≡ false)
    × (is_aliased 3 (runs_of 3 2 (vectors_of 3 2 (1 ∷ 3 ∷ 5 ∷ []))) (1 ∷ 0 ∷ 0 ∷ []) (0 ∷ 2 ∷ 1 ∷ []) ≡ true)
    × (is_aliased 3 (runs_of 3 2 (vectors_of 3 2 (1 ∷ 3 ∷ 5 ∷ []))) (1 ∷ 0 ∷ 0 ∷ []) (0 ∷ 1 ∷ 1 ∷ []) ≡ false)
unfolding prime_of degree_of reduction_of add mul neg inv runs_of is_constant is_aliased
alias_sets = (refl, refl, refl, refl)

-- components of one and of two of three factors: the dictionary order of their places, and for each support rising
-- numbers
listed :
    (map (number 2) (components 2 3 2) ≡ 1 ∷ 2 ∷ 4 ∷ 3 ∷ 5 ∷ 6 ∷ [])
    × (map (number 3) (components 3 2 2) ≡ 1 ∷ 3 ∷ 4 ∷ 5 ∷ [])
    × (map (number 4) (components 4 2 2) ≡ 1 ∷ 4 ∷ 5 ∷ 6 ∷ 7 ∷ [])
    × (components 3 3 3 ≡ (1 ∷ 0 ∷ 0 ∷ []) ∷ (0 ∷ 1 ∷ 0 ∷ []) ∷ (0 ∷ 0 ∷ 1 ∷ [])
    ∷ (1 ∷ 1 ∷ 0 ∷ []) ∷ (2 ∷ 1 ∷ 0 ∷ []) ∷ (1 ∷ 0 ∷ 1 ∷ []) ∷ (2 ∷ 0 ∷ 1 ∷ []) ∷ (0 ∷ 1 ∷ 1 ∷ []) ∷ (0 ∷ 2 ∷ 1 ∷ [])
    ∷ (1 ∷ 1 ∷ 1 ∷ []) ∷ (2 ∷ 1 ∷ 1 ∷ []) ∷ (1 ∷ 2 ∷ 1 ∷ []) ∷ (2 ∷ 2 ∷ 1 ∷ []) ∷ [])
    × (listed_count 3 3 3 ≡ 13)
    × (listed_count 9 40 2 ≡ 6280)
listed = (refl, refl, refl, refl, refl, refl)

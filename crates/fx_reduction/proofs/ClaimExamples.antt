-- What the claims on all rule matrices speak of: also matrices that are not canonical refute them.
use Rattle.std.proofs.Common.{ℕ, ◌<◌, ◌≤◌, true, [], ◌∷◌, refl, arith}
use Rattle.std.proofs.lemmas.Bool.{both_ways}
use Rattle.std.proofs.lemmas.List.Elements.{All-from_recursion}
use Rattle.fx_designs.specs.Galois.{prime_of, degree_of, reduction_of, add, mul, neg, inv}
use Rattle.fx_designs.specs.Vectors.{IsVector}
use Rattle.fx_designs.specs.Runs.{runs_of, is_constant, is_balanced, are_blocks_even, is_balanced_in_blocks}
use Rattle.fx_designs.specs.Problems.{Dimensions, AtResolution}
use Rattle.fx_designs.specs.Demands.{must_balance, is_estimated}
use Rattle.fx_designs.specs.Patterns.{constant_words, pattern_of}
use Rattle.fx_designs.specs.Matrices.{IsRuleMatrix, NoneMeets}
use Rattle.fx_reduction.specs.BlockedResolutions.{IsHighestInBlocks}
use Rattle.fx_reduction.specs.Resolutions.{HasLeastPattern, HighestOfAll}

abbrev size : ℕ → ℕ → ℕ → ℕ → Dimensions
size q m s t = record { q = q; m = m; s = s; t = t }

pair : (q a b : ℕ) → a < q → b < q → IsVector q 2 (a ∷ b ∷ [])
pair q a b ha hb = record { len = refl; codes = (ha, (hb, tt)) }

three : (a b c : ℕ) → a < 2 → b < 2 → c < 2 → IsVector 2 3 (a ∷ b ∷ c ∷ [])
three a b c ha hb hc = record { len = refl; codes = (ha, (hb, (hc, tt))) }

one : IsVector 2 1 (1 ∷ [])
one = record { len = refl; codes = (omega arith, tt) }

-- a zero row, two rows that are the same and not normal, and a block row
any_rows : IsRuleMatrix (size 3 2 3 1) ((0 ∷ 0 ∷ []) ∷ (1 ∷ 2 ∷ []) ∷ (1 ∷ 2 ∷ []) ∷ []) ((0 ∷ 2 ∷ []) ∷ [])
any_rows =
    let zero_row : IsVector 3 2 (0 ∷ 0 ∷ []) = pair 3 0 0 (omega arith) (omega arith) in
    let row : IsVector 3 2 (1 ∷ 2 ∷ []) = pair 3 1 2 (omega arith) (omega arith) in
    let block : IsVector 3 2 (0 ∷ 2 ∷ []) = pair 3 0 2 (omega arith) (omega arith) in
    record {
      factor_count = refl;
      block_count = refl;
      factor_rows = All-from_recursion (IsVector 3 2) ((0 ∷ 0 ∷ []) ∷ (1 ∷ 2 ∷ []) ∷ (1 ∷ 2 ∷ []) ∷ [])
          (zero_row, (row, (row, tt)));
      block_rows = All-from_recursion (IsVector 3 2) ((0 ∷ 2 ∷ []) ∷ []) (block, tt);
    }

-- two factors with the same levels, which no canonical matrix has
same_levels : IsRuleMatrix (size 2 1 2 0) ((1 ∷ []) ∷ (1 ∷ []) ∷ []) []
same_levels = record {
  factor_count = refl;
  block_count = refl;
  factor_rows = All-from_recursion (IsVector 2 1) ((1 ∷ []) ∷ (1 ∷ []) ∷ []) (one, (one, tt));
  block_rows = All-from_recursion (IsVector 2 1) [] tt;
}

some_meets : NoneMeets (size 2 1 2 0) (AtResolution 2) → ⊥
unfolding prime_of degree_of reduction_of add mul neg inv runs_of is_constant is_balanced are_blocks_even
    is_balanced_in_blocks must_balance is_estimated
some_meets none = both_ways true (none ((1 ∷ []) ∷ (1 ∷ []) ∷ []) [] same_levels) refl

-- the units, in the order that no canonical matrix has
units : IsRuleMatrix (size 2 2 2 0) ((0 ∷ 1 ∷ []) ∷ (1 ∷ 0 ∷ []) ∷ []) []
units =
    let second : IsVector 2 2 (0 ∷ 1 ∷ []) = pair 2 0 1 (omega arith) (omega arith) in
    let first : IsVector 2 2 (1 ∷ 0 ∷ []) = pair 2 1 0 (omega arith) (omega arith) in
    record {
      factor_count = refl;
      block_count = refl;
      factor_rows = All-from_recursion (IsVector 2 2) ((0 ∷ 1 ∷ []) ∷ (1 ∷ 0 ∷ []) ∷ []) (second, (first, tt));
      block_rows = All-from_recursion (IsVector 2 2) [] tt;
    }

some_higher : HighestOfAll (size 2 2 2 0) (1 ∷ 1 ∷ []) → ⊥
unfolding prime_of degree_of reduction_of add mul neg inv runs_of is_constant constant_words pattern_of
some_higher highest =
    let low : 3 ≤ 2 = highest ((0 ∷ 1 ∷ []) ∷ (1 ∷ 0 ∷ []) ∷ []) [] units in
    omega (arith, low)

some_less : HasLeastPattern (size 2 2 2 0) (AtResolution 2) (1 ∷ 1 ∷ []) → ⊥
unfolding prime_of degree_of reduction_of add mul neg inv runs_of is_constant is_balanced are_blocks_even
    is_balanced_in_blocks must_balance is_estimated constant_words pattern_of
some_less least = both_ways true (least ((0 ∷ 1 ∷ []) ∷ (1 ∷ 0 ∷ []) ∷ []) [] units refl) refl

-- three units in such an order, and two blocks with which no effect of at most two factors is confounded
units_in_blocks :
    IsRuleMatrix (size 2 3 3 1) ((0 ∷ 1 ∷ 0 ∷ []) ∷ (1 ∷ 0 ∷ 0 ∷ []) ∷ (0 ∷ 0 ∷ 1 ∷ []) ∷ []) ((1 ∷ 1 ∷ 1 ∷ []) ∷ [])
units_in_blocks = record {
  factor_count = refl;
  block_count = refl;
  factor_rows = All-from_recursion (IsVector 2 3) ((0 ∷ 1 ∷ 0 ∷ []) ∷ (1 ∷ 0 ∷ 0 ∷ []) ∷ (0 ∷ 0 ∷ 1 ∷ []) ∷ []) (
    three 0 1 0 (omega arith) (omega arith) (omega arith),
    (
      three 1 0 0 (omega arith) (omega arith) (omega arith),
      (three 0 0 1 (omega arith) (omega arith) (omega arith), tt),
    ),
  );
  block_rows = All-from_recursion (IsVector 2 3) ((1 ∷ 1 ∷ 1 ∷ []) ∷ [])
      (three 1 1 1 (omega arith) (omega arith) (omega arith), tt);
}

some_higher_in_blocks : IsHighestInBlocks (size 2 3 3 1) (1 ∷ 2 ∷ 4 ∷ 7 ∷ []) 3 → ⊥
unfolding prime_of degree_of reduction_of add mul neg inv runs_of is_constant is_balanced are_blocks_even
    is_balanced_in_blocks must_balance is_estimated
some_higher_in_blocks highest =
    both_ways true
    (highest.none_above 4 (omega arith) (omega arith) ((0 ∷ 1 ∷ 0 ∷ []) ∷ (1 ∷ 0 ∷ 0 ∷ []) ∷ (0 ∷ 0 ∷ 1 ∷ []) ∷ [])
    ((1 ∷ 1 ∷ 1 ∷ []) ∷ []) units_in_blocks) refl

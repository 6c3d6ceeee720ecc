-- Rule matrices without block factors that meet resolution 3 are designs whose base is zero.
use Rattle.std.proofs.Common.{ℕ, ◌≡◌, ◌<◌, ◌≤◌, ◌+◌, ◌-◌, ◌*◌, ◌/◌, zero, suc, true, false, cond, eqb, ◌&&◌, List, []}
use Rattle.std.proofs.Common.{◌∷◌, ◌++◌, map, length, take, refl, sym, ◌∙◌, arith, inl, inr, eqb-true}
use Rattle.std.proofs.Common.{eq-eqb, append-nil, not}
use Rattle.std.specs.Prelude.{nat_lt}
use Rattle.std.specs.List.{range_with_len, sum_by}
use Rattle.std.proofs.Math.Seq.{take-append_seam}
use Rattle.std.proofs.lemmas.Bool.{and_parts, and_from, or_cases, or_left, or_right, both_ways, false_from_ne_true}
use Rattle.std.proofs.lemmas.Bool.{ltb-true, lt-ltb, le-leb, cond-true, not-true}
use Rattle.std.proofs.lemmas.List.Elements.{filter-append, recursion_from_All, All-from_recursion}
use Rattle.std.proofs.Math.Nat.{mul-le-mul_left, mul-div_cancel_left}
use Rattle.fx_base.proofs.Lists.{each-append}
use Rattle.fx_designs.specs.Galois.{IsField}
use Rattle.fx_designs.specs.Vectors.{IsVector, zeros, weight, is_zero, combination, vectors_of}
use Rattle.fx_designs.specs.Runs.{points, runs_of}
use Rattle.fx_designs.specs.Spans.{in_span}
use Rattle.fx_designs.specs.Problems.{Dimensions, AtResolution}
use Rattle.fx_designs.specs.Demands.{do_runs_meet}
use Rattle.fx_designs.specs.Patterns.{constant_words, pattern_of, is_less}
use Rattle.fx_designs.specs.Matrices.{IsRuleMatrix, row_numbers}
use Rattle.fx_laws.proofs.Space.{AreVectors, zeros-vector, combination-vector}
use Rattle.fx_laws.proofs.Shift.{all-points}
use Rattle.fx_laws.proofs.Sums.{sum_by-zero}
use Rattle.fx_laws.proofs.Ranks.{plus-zero, in_span-true}
use Rattle.fx_laws.proofs.Raises.{none-combination, sum_by-each}
use Rattle.fx_laws.proofs.Weights.{zeros_from_weight, weight-zeros}
use Rattle.fx_laws.proofs.CanonicalTest.{take-vectors}
use Rattle.fx_reduction.specs.Words.{normal_words}
use Rattle.fx_reduction.proofs.Kept.{factor-vectors, block-vectors, allowed_facts}
use Rattle.fx_reduction.proofs.NoDesign.{met_exactly}
use Rattle.fx_reduction.proofs.NormalWords.{multiples}
use Rattle.fx_reduction.proofs.Numbers.{back}
use Rattle.fx_strata.specs.Designs.{Strata, Part, Words, part_of, words_of, figures_of, IsStratified}
use Rattle.fx_strata.specs.Orders.{is_compared, compared, factors_first}
use Rattle.fx_strata.specs.Words.{words_in}
use Rattle.fx_strata.specs.Sums.{is_in_base, sums_of}
use Rattle.fx_strata.specs.Ordinary.{ordinary, LessPatternsAreBetter, MatricesAreDesigns}
use Rattle.fx_strata.proofs.Runs.{words-are-sums}

-- what is less than a list that begins with 0 begins with 0 too, and goes on with less
behind-zero : (a : ℕ) (front other : List ℕ) → is_less (a ∷ front) (0 ∷ other) ≡ true → is_less front other ≡ true
behind-zero a front other h = elim (or_cases _ _ h) [
  | inl t ↦ absurd (omega (arith, ltb-true a 0 t))
  | inr t ↦ (and_parts _ _ t).1
]

behind-zeros : (g : ℕ → ℕ) (s : ℕ) (pattern : List ℕ) → is_less (map g (range_with_len 1 s)) (0 ∷ 0 ∷ pattern) ≡ true
    → (n : ℕ) × (s ≡ suc (suc n)) × (is_less (map g (range_with_len 3 n)) pattern ≡ true)
behind-zeros g zero pattern h = cc h
behind-zeros g (suc zero) pattern h =
    absurd (let none = behind-zero (g 1) [] (0 ∷ pattern) h in cc none)
behind-zeros g (suc (suc n)) pattern h =
    let later = map g (range_with_len 3 n) in
    (n, refl, behind-zero (g 2) later pattern (behind-zero (g 1) (g 2 ∷ later) (0 ∷ pattern) h))

-- the order of designs without a base
module _ (d : Dimensions) where
  abbrev all : List Part → List Part
  all parts = compared (ordinary d) parts

  all-constant : (a n : ℕ) → 3 ≤ a → a + n ≤ d.s + 1
      → all (map (Words false) (range_with_len a n)) ≡ map (Words false) (range_with_len a n)
  all-constant a zero low high = refl
  all-constant a (suc n) low high =
      let later = map (Words false) (range_with_len (a + 1) n) in
      let is =
      and_from _ _ (le-leb 3 a low) (le-leb a (0 + d.s) (omega arith)) in
      cc (
        cond-true _ (Words false a ∷ all later) (all later) is,
        all-constant (a + 1) n (omega arith) (omega arith),
      )

  none-confounded : (a n : ℕ) → all (map (Words true) (range_with_len a n)) ≡ []
  none-confounded a zero = refl
  none-confounded a (suc n) = none-confounded (a + 1) n

  constant-words : (n : ℕ) → d.s ≡ suc (suc n)
      → factors_first (ordinary d) ≡ map (Words false) (range_with_len 3 n)
  constant-words n e =
      let size : suc (suc n) ≡ 0 + d.s = omega arith in
      rw (← size) (cc (
        filter-append (is_compared (ordinary d)) (map (Words false) (range_with_len 3 n))
            (map (Words true) (range_with_len 1 (suc (suc n)))),
        all-constant 3 n (omega arith) (omega arith),
        none-confounded 1 (suc (suc n)),
        append-nil (map (Words false) (range_with_len 3 n)),
      ))

module _ (d : Dimensions) (f : IsField d.q) (none : d.t ≡ 0) where
  abbrev x : Strata
  x = ordinary d

  module _ (factors blocks : List (List ℕ)) (hm : IsRuleMatrix d factors blocks)
      (met : do_runs_meet d (AtResolution 3) (runs_of d.q d.m (factors ++ blocks)) ≡ true) where
    hf : AreVectors d.q d.m factors
    hf = factor-vectors d f factors blocks hm

    hb : AreVectors d.q d.m blocks
    hb = block-vectors d f factors blocks hm

    no-short : (u : List ℕ) → IsVector d.q (length factors) u → 0 < weight u → weight u < 3
        → combination d.q d.m u factors ≡ zeros d.m → ⊥
    no-short u hu some low z =
        let ok = (allowed_facts d f (AtResolution 3) factors blocks hm.factor_count hm.block_count).0
        ((met_exactly d f (AtResolution 3) factors blocks hm).0 met) in
        ok.none u (zeros d.t) hu (rw hm.block_count (zeros-vector d.q d.t f))
        (inl (refl, (some, low)))
        (cc (
          none-combination d.q d.m f d.t blocks hb,
          plus-zero d.q d.m f _ (combination-vector d.q d.m f u factors hf),
        ))

    sums-none : (k : ℕ) → 0 < k → k < 3 → words_in d.q d.m is_zero factors k ≡ 0
    unfolding words_in
    sums-none k some low =
        let one : List ℕ → ℕ = λ u. cond (is_zero (combination d.q d.m u factors) && eqb (weight u) k) 1 0 in
        sum_by-each one (λ u. 0) (points d.q (length factors)) (recursion_from_All _ _
        (all-points d.q (length factors) (omega arith) (λ u. one u ≡ 0)
        (λ u hu. cc (false_from_ne_true _
        (λ t. let p = and_parts (is_zero (combination d.q d.m u factors)) (eqb (weight u) k) t in
        let w = eqb-true (weight u) k p.1 in no-short u hu
        (omega arith) (omega arith)
        (zeros_from_weight (combination d.q d.m u factors) d.m (combination-vector d.q d.m f u factors hf).len
        (eqb-true (weight (combination d.q d.m u factors)) 0 p.0)))))))
        ∙ sum_by-zero (points d.q (length factors))

    none-of : (k : ℕ) → 0 < k → k < 3 → words_of x [] factors false k ≡ 0
    none-of k some low = words-are-sums x f [] factors tt hf (omega arith) false k ∙ sums-none k some low

    -- the base has no vector that is not zero
    nothing-inside : sums_of x [] factors true 1 ≡ 0
    unfolding words_in
    nothing-inside =
        let one : List ℕ → ℕ = λ u. cond (is_in_base x [] (combination d.q d.m u factors) && eqb (weight u) 1) 1 0 in
        let all : sum_by one (points d.q (length factors)) ≡ 0 =
        sum_by-each one (λ u. 0) (points d.q (length factors)) (recursion_from_All _ (points d.q (length factors))
        (all-points d.q (length factors) (omega arith) (λ u. one u ≡ 0)
        (λ u hu. cc (false_from_ne_true _
        (λ t. let v : List ℕ = combination d.q d.m u factors in let hv = combination-vector d.q d.m f u factors
        hf in let p = and_parts (is_in_base x [] v) (eqb (weight u) 1) t in let p' = and_parts (not (is_zero v))
        (in_span d.q d.m [] v) p.0 in let s = in_span-true d.q d.m f [] v tt hv p'.1 in let zero : is_zero v
        ≡ true = cc (s.gives, nothing s.by, eq-eqb (weight (zeros d.m)) 0 (weight-zeros d.m)) in
        both_ways (is_zero v) (not-true (is_zero v) p'.0)
        zero)))))
        ∙ sum_by-zero (points d.q (length factors)) in
        omega arith
      where
        nothing : (u : List ℕ) → combination d.q d.m u [] ≡ zeros d.m
        nothing [] = refl
        nothing (a ∷ u) = refl

    stratified : IsStratified x [] factors
    stratified = record {
      factor_count = hm.factor_count ∙ (let e : d.s ≡ 0 + d.s = omega arith in e);
      block_rows = All-from_recursion (λ r. IsVector d.q d.m r) [] tt;
      factor_rows = hm.factor_rows;
      base = refl;
      none_of_one = none-of 1 (omega arith) (omega arith);
      none_of_two = none-of 2 (omega arith) (omega arith);
      none_confounded = words-are-sums x f [] factors tt hf (omega arith) true 1 ∙ nothing-inside;
    }

    -- the pattern is of the factor rows
    rows-are : vectors_of d.q d.m (take d.s (row_numbers d factors blocks)) ≡ factors
    rows-are =
        cc (
          take-vectors d.q d.m d.s (row_numbers d factors blocks),
          back d.q d.m f _ (each-append _ factors blocks hf hb),
          rw hm.factor_count at (take-append_seam factors blocks),
        )

    abbrev c : ℕ → ℕ
    c k = constant_words d.q d.m factors k

    less-key : (a n : ℕ) (pattern : List ℕ) → 0 < a
        → is_less (map (λ k. c k / (d.q - 1)) (range_with_len a n)) pattern ≡ true
        → is_less (map (part_of (figures_of x [] factors)) (map (Words false) (range_with_len a n)))
        (map (λ z. (d.q - 1) * z) pattern) ≡ true
    less-key a zero pattern pos h = cc h
    less-key a (suc n) [] pos h = cc h
    less-key a (suc n) (p ∷ pattern) pos h =
        let m = d.q - 1 in
        let big : 0 < m = omega arith in
        let N : ℕ = normal_words d.q d.m factors a in
        let is : c a ≡ m * N = multiples d.q d.m f factors a hf pos in
        let divided : c a / m ≡ N = cc (is, mul-div_cancel_left N big) in
        elim (or_cases (nat_lt (c a / m) p)
        (eqb (c a / m) p && is_less (map (λ k. c k / m) (range_with_len (a + 1) n)) pattern) h) [
          | inl t ↦
              let less : c a / m < p = ltb-true (c a / m) p t in
              let up : m * (N + 1) ≤ m * p = mul-le-mul_left m (omega arith) in
              let parts : m * (N + 1) ≡ m * N + m = grind arith in
              or_left _ _ (lt-ltb (c a) (m * p) (omega arith))
          | inr t ↦
              let q = and_parts _
              _ t in
              let e = sym divided ∙ eqb-true _ p q.0 in
              or_right _ _ (and_from _ _ (eq-eqb (c a) (m * p) (cc (is, e)))
              (less-key (a + 1) n pattern (omega arith) q.1))
        ]

  pub less_patterns : LessPatternsAreBetter d
  unfolding pattern_of
  less_patterns pattern none' better factors blocks hm met = false_from_ne_true _ (λ t.
      let rest = behind-zeros (λ k. c factors blocks hm met k / (d.q - 1)) d.s pattern
      (rw (rows-are factors blocks hm met) at t) in
      both_ways _ (better [] factors (stratified factors blocks hm met))
      (rw (constant-words d rest.0 rest.1) (less-key factors blocks hm met 3 rest.0 pattern (omega arith) rest.2)))

  pub matrices_are_designs : MatricesAreDesigns d
  matrices_are_designs none' better factors blocks hm = false_from_ne_true _ (λ met.
      both_ways true (better [] factors (stratified factors blocks hm met)) refl)

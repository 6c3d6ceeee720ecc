-- Combined words are the words of the design with an even number of folded factors.
use Rattle.std.proofs.Common.{ℕ, ◌≡◌, ◌<◌, ◌+◌, ◌%◌, ◌&&◌, ◌||◌, true, false, zero, suc, cond, eqb, List, [], ◌∷◌}
use Rattle.std.proofs.Common.{length, refl, sym, ◌∙◌, ap, ap₂, arith, inl, inr}
use Rattle.std.specs.Prelude.{nat_lt, slice_index}
use Rattle.std.specs.List.{AllByRecursion}
use Rattle.std.proofs.lemmas.Bool.{cases_eq, cases_lt, cond-true, cond-false, and_parts, and_from, and_right, both_ways}
use Rattle.std.proofs.lemmas.Bool.{eq-eqb, eqb-true, ne_eqb, lt-ltb}
use Rattle.std.proofs.lemmas.List.{get_or_past}
use Rattle.std.proofs.lemmas.List.Elements.{recursion_from_All}
use Rattle.std.proofs.lemmas.List.FromFn.{get_or-map-range_with_len, length-map-range_with_len}
use Rattle.std.proofs.lemmas.List.Sums.{sum_by-cons}
use Rattle.fx_designs.specs.Vectors.{combination, zeros, weight, IsVector}
use Rattle.fx_designs.specs.Runs.{points, is_constant, is_balanced, runs_of}
use Rattle.fx_laws.proofs.Bridge.{other_balanced}
use Rattle.fx_laws.proofs.Constant.{zero_sum_decides}
use Rattle.fx_laws.proofs.Judging.{balanced_decides}
use Rattle.fx_laws.proofs.Raises.{sum_by-each}
use Rattle.fx_laws.proofs.Shift.{all-points}
use Rattle.fx_laws.proofs.Sums.{sum_by-zero}
use Rattle.fx_laws.proofs.Space.{AreVectors}
use Rattle.fx_laws.proofs.Tests.{bool_same}
use Rattle.fx_foldover.specs.Foldovers.{combined_plan, combined_words, combined_pattern, folded_count}
use Rattle.fx_foldover.proofs.Rules.{two, combined_rules, combined_rules-vectors, combined_rules-sum, combined-runs}

abbrev head_of : List ℕ → ℕ
head_of [] = 0
head_of (a ∷ v) = a

abbrev tail_of : List ℕ → List ℕ
tail_of [] = []
tail_of (a ∷ v) = v

module _ (m : ℕ) (fold : List ℕ) (rules : List (List ℕ)) (e : length fold ≡ length rules) (hr : AreVectors 2 m rules)
    (u : List ℕ) (hu : IsVector 2 (length rules) u) where
  abbrev count : ℕ
  count = folded_count fold u

  abbrev sum : List ℕ
  sum = combination 2 m u rules

  -- over the runs of the rules with one run index more
  over_rules : is_constant 2 u (runs_of 2 (suc m) (combined_rules fold rules))
      ≡ (is_constant 2 u (runs_of 2 m rules) && eqb (count % 2) 0)
  over_rules =
      let combined = zero_sum_decides 2 _ two _ (combined_rules-vectors m fold rules hr) u in
      let first = zero_sum_decides 2 m two rules hr u in
      let is = combined_rules-sum m fold rules u e hu in
      bool_same _ _
      (λ t.
      let zero_is = sym is ∙ combined.0 t in
      and_from _ _ (first.1 (ap tail_of zero_is)) (eq-eqb _ _ (ap head_of zero_is)))
      (λ t.
      let parts = and_parts _ _ t in
      combined.1 (is ∙ ap₂ (λ a v. a ∷ v) (eqb-true _ _ parts.1) (first.0 parts.0)))

  pub even-words : is_constant 2 u (combined_plan fold (runs_of 2 m rules))
      ≡ (is_constant 2 u (runs_of 2 m rules) && eqb (count % 2) 0)
  even-words = cc (combined-runs m fold rules e, over_rules)

  pub other-words : is_constant 2 u (combined_plan fold (runs_of 2 m rules)) ≡ false
      → is_balanced 2 u (combined_plan fold (runs_of 2 m rules)) ≡ true
  other-words none =
      let runs = runs_of 2 (suc m) (combined_rules fold rules) in
      let is = combined-runs m fold rules e in
      let more = combined_rules-vectors m fold rules hr in
      let combined = zero_sum_decides 2 _ two _ more u in
      let some : combination 2 (suc m) u (combined_rules fold rules) ≡ zeros (suc m) → ⊥ =
      λ z. both_ways _ (ap (is_constant 2 u) is ∙ none) (combined.1 z) in
      cc ((balanced_decides 2 u runs).1 (other_balanced 2 _ two _ u more some))

-- where all factors are folded, a word has as many folded factors as its weight
full-count : (fold u : List ℕ) → AllByRecursion (λ f. 0 < f) fold → length fold ≡ length u
    → folded_count fold u ≡ weight u
full-count [] [] h e = refl
full-count [] (a ∷ u) h e = absurd (omega arith)
full-count (f ∷ fold) [] h e = absurd (omega arith)
full-count (f ∷ fold) (a ∷ u) h e =
    let same : ◌≡◌ {A = ℕ} (cond (eqb f 0 || eqb a 0) 0 1) (cond (nat_lt 0 a) 1 0) =
    cc (ne_eqb f 0 (λ z. (let some = h.0 in omega arith)), counted a) in
    cc ((full-count fold u h.1 (omega arith)), (sum_by-cons (λ c. cond (nat_lt 0 c) 1 0) a u))
  where
    counted : (a : ℕ) → ◌≡◌ {A = ℕ} (cond (eqb a 0) 0 1) (cond (nat_lt 0 a) 1 0)
    counted zero = refl
    counted (suc a) =
        cond-false _ 0 1 (ne_eqb (suc a) 0 (λ z. omega arith))
        ∙ sym (cond-true _ 1 0 (lt-ltb 0 (suc a) (omega arith)))

module _ (m : ℕ) (fold : List ℕ) (rules : List (List ℕ)) (e : length fold ≡ length rules) (hr : AreVectors 2 m rules)
    (full : AllByRecursion (λ f. 0 < f) fold) where
  pub no-odd_word : (u : List ℕ) → IsVector 2 (length rules) u → ◌≡◌ {A = ℕ} (weight u % 2) 1
      → is_constant 2 u (combined_plan fold (runs_of 2 m rules)) ≡ false
  no-odd_word u hu odd =
      let same = full-count fold u full (let l = hu.len in omega arith) in
      even-words m fold rules e hr u hu
      ∙ and_right (is_constant 2 u (runs_of 2 m rules)) _ (ne_eqb _ 0 (λ z. omega arith))

  abbrev plan : List (List ℕ)
  plan = combined_plan fold (runs_of 2 m rules)

  no-odd_words : (k : ℕ) → ◌≡◌ {A = ℕ} (k % 2) 1 → ◌≡◌ {A = ℕ} (combined_words m fold rules k) 0
  unfolding combined_words
  no-odd_words k odd =
      let n = length rules in
      let test : List ℕ → ℕ = λ u. cond (eqb (weight u) k && is_constant 2 u plan) 1 0 in
      sum_by-each test (λ u. 0) (points 2 n)
      (recursion_from_All _ _ (all-points 2 n (omega arith) (λ u. test u ≡ 0) (λ u hu. none u hu)))
      ∙ sum_by-zero (points 2 n)
    where
      none : (u : List ℕ) → IsVector 2 (length rules) u
          → ◌≡◌ {A = ℕ} (cond (eqb (weight u) k && is_constant 2 u plan) 1 0) 0
      none u hu = elim (cases_eq (weight u) k) [
        | inl is ↦ cond-false _ 1 0 (and_right _ _ (no-odd_word u hu (cc)))
        | inr other ↦ cc (ne_eqb _ k other)
      ]

  pub no-odd_entry : (k : ℕ) → ◌≡◌ {A = ℕ} (k % 2) 0
      → ◌≡◌ {A = ℕ} (slice_index (combined_pattern m fold rules) k) 0
  unfolding combined_pattern
  no-odd_entry k even = elim (cases_lt k (length rules)) [
    | inl low ↦
        get_or-map-range_with_len (combined_words m fold rules) 1 _ k (k + 1) 0 low (omega arith)
        ∙ no-odd_words (k + 1) (omega arith)
    | inr past ↦ get_or_past _ k 0
        (omega (arith, length-map-range_with_len (combined_words m fold rules) 1 (length rules)))
  ]

-- The answer is the first design.
use Rattle.std.proofs.Common.{ℕ, ◌≡◌, ◌<◌, ◌+◌, ◌^◌, ◌||◌, not, ltb, true, false, List, length, Some, None, sym, ap}
use Rattle.std.proofs.Common.{◌∙◌, subst, arith, inl, inr, ◌&&◌}
use Rattle.std.specs.List.{find, filter, AllByRecursion}
use Rattle.std.proofs.lemmas.Bool.{and_parts, eqb-true, or_left, false_from_ne_true, both_ways, ltb-true, lt-ltb}
use Rattle.std.proofs.lemmas.Bool.{cases_lt}
use Rattle.std.proofs.lemmas.List.Elements.{recursion_from_All}
use Rattle.fx_designs.specs.Problems.{Problem}
use Rattle.fx_designs.specs.Canonical.{is_canonical}
use Rattle.fx_designs.specs.Answers.{before, lists, prefixes, is_design, is_of_least_pattern, designs, answer}
use Rattle.fx_laws.specs.First.{IsFirstDesign}
use Rattle.fx_laws.proofs.Tests.{all_decides}
use mathlib.Core.Bool.{and-true}
use Rattle.fx_base.proofs.Lists.{find-filter, find_agree}
use Rattle.fx_base.specs.Members.{Has}
use Rattle.fx_laws.proofs.Order.{lists-sorted, all_lists, found_first, first_found, found_passes, before-self}
use Rattle.fx_laws.proofs.Order.{before-not}

module _ (p : Problem) where
  -- what every design has, by its tests of length and range
  pub design-rows : (rows : List ℕ) → is_design p rows ≡ true
      → (length rows ≡ p.dimensions.s + p.dimensions.t) × AllByRecursion (λ r. r < p.dimensions.q ^ p.dimensions.m) rows
  unfolding is_canonical
  design-rows rows h =
      let parts = and_parts _ _ h in
      let canonical = and_parts _ _ (and_parts _ _ parts.1).0 in
      let below =
      (all_decides (λ r. ltb r (p.dimensions.q ^ p.dimensions.m)) (λ r. r < p.dimensions.q ^ p.dimensions.m)
      (λ r. (λ e. ltb-true _ _ e, λ h. lt-ltb _ _ h)) rows).0 (and_parts _ _ canonical.1).0 in
      (eqb-true _ _ parts.0, recursion_from_All (λ r. r < p.dimensions.q ^ p.dimensions.m) rows below)

  pub there : 0 < p.dimensions.s + p.dimensions.t → (rows : List ℕ) → is_design p rows ≡ true → Has rows (prefixes p)
  there some rows h =
      let d = design-rows rows h in
      let len = d.0 in
      all_lists (p.dimensions.q ^ p.dimensions.m) (p.dimensions.s + p.dimensions.t) rows (omega arith) (omega arith) d.1

  -- where there is an answer, there is a row
  pub some_rows : (rows : List ℕ) → answer p ≡ Some rows → 0 < p.dimensions.s + p.dimensions.t
  unfolding answer designs lists
  some_rows rows h = elim (cases_lt 0 (p.dimensions.s + p.dimensions.t)) [
    | inl some ↦ some
    | inr none ↦
        let zero_is : p.dimensions.s + p.dimensions.t ≡ 0 = omega arith in
        let test = λ (rows : List ℕ). not p.least || is_of_least_pattern p rows in
        let empty : find test (filter (is_design p) (prefixes p)) ≡ None =
        cc zero_is in
        let bad : Some rows ≡ None = sym h ∙ empty in
        absurd (cc)
  ]

  module _ (plain : p.least ≡ false) where
    pub answer-find : answer p ≡ find (is_design p) (prefixes p)
    unfolding answer designs
    answer-find =
        let least = λ (rows : List ℕ). not p.least || is_of_least_pattern p rows in
        find-filter (is_design p) least (prefixes p)
        ∙ find_agree (λ rows. is_design p rows && least rows) (is_design p)
        (λ rows. cc (or_left _ _ (ap not plain), and-true (is_design p rows)))
        (prefixes p)

    pub first-answer : 0 < p.dimensions.s + p.dimensions.t → (rows : List ℕ) → IsFirstDesign p rows
        → answer p ≡ Some rows
    first-answer some rows first =
        answer-find ∙ first_found (is_design p) (prefixes p) rows (lists-sorted _ _) (there some rows first.design)
        first.design first.none_before

    pub none-design : 0 < p.dimensions.s + p.dimensions.t → answer p ≡ None → (rows : List ℕ) → is_design p rows ≡ false
    none-design some none rows = false_from_ne_true (is_design p rows) (λ h.
        let found = found_first (is_design p) (prefixes p) rows (lists-sorted _ _) (there some rows h) h in
        let bad : Some found.0 ≡ None = cc (found.1, answer-find, none) in
        absurd (cc))

    pub answer-first : (rows : List ℕ) → answer p ≡ Some rows → IsFirstDesign p rows
    answer-first rows h =
        let is : find (is_design p) (prefixes p) ≡ Some rows = sym answer-find ∙ h in
        record {
          design = found_passes (is_design p) (prefixes p) rows is;
          none_before = λ other design earlier.
              let found =
              found_first (is_design p) (prefixes p) other (lists-sorted _ _)
              (there (some_rows rows h) other design) design in
              let same : Some found.0 ≡ Some rows = sym found.1 ∙ is in
              let e : found.0 ≡ rows = cc in
              elim (found.3) [
                | inl own ↦ both_ways _ (before-self rows) (subst (λ z. before z rows ≡ true) (sym own ∙ e) earlier)
                | inr first ↦ both_ways _ (before-not other rows earlier) (subst (λ z. before z other ≡ true) e first)
              ];
        }

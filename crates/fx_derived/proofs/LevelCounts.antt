-- How often each level comes over the first runs, and balance.
use Rattle.std.proofs.Common.{ℕ, ◌≡◌, ◌<◌, ◌≤◌, ◌↔◌, ◌+◌, ◌^◌, Bool, IsTrue, eqb, List, [], length, take, set}
use Rattle.std.proofs.Common.{get_or, get_or-set_other, get_or-set_same, sym, ◌∙◌, ap, arith, inl, inr}
use Rattle.std.specs.Bool.{Decides}
use Rattle.std.specs.Prelude.{count_by}
use Rattle.std.specs.List.{list_all, range_with_len}
use Rattle.std.proofs.lemmas.List.{take_all}
use Rattle.std.proofs.Math.ListN.{length-set}
use Rattle.std.proofs.lemmas.List.Sums.{count_by_more_no, count_by_more_yes}
use Rattle.std.proofs.lemmas.Bool.{cases_eq, eq-eqb, eqb-true, ne_eqb}
use Rattle.std.proofs.Math.Nat.{pow-le-pow_left, pow-le-pow_right}
use Rattle.fx_designs.specs.Galois.{is_order}
use Rattle.fx_laws.proofs.Tests.{bool_same, range_decides}
use Rattle.fx_vectors.proofs.Limits.{order-bounds}
use Rattle.fx_derived.specs.Codes.{derived_level, level_count, are_levels_balanced}
use Rattle.fx_derived.specs.Counts.{AreLevelCounts, AreEqual}

module _ (q : ℕ) (places : List ℕ) (runs : List (List ℕ)) where
  abbrev has : ℕ → List ℕ → Bool
  has y x = eqb (derived_level q places x) y

  -- counts has how often each level came in the first k runs
  pub record Counted (counts : List ℕ) (k : ℕ) : Type 0 where
    pub len : length counts ≡ q ^ length places
    pub each : (y : ℕ) → y < q ^ length places → get_or counts y 0 ≡ count_by (has y) (take k runs)

  -- one more run, whose level is v
  pub counted_more : (counts : List ℕ) (k v : ℕ) → k < length runs → derived_level q places (get_or runs k []) ≡ v
      → v < q ^ length places
      → Counted counts k → Counted (set counts v (get_or counts v 0 + 1)) (k + 1)
  counted_more counts k v h is code c = record {
    len = simp length-set c.len;
    each = λ y small. elim (cases_eq y v) [
      | inl e ↦
          let room : v < length counts = omega arith in
          let yes = count_by_more_yes (has y) runs k [] h (eq-eqb _ _ (is ∙ sym e)) in
          rw (e, get_or-set_same) (ap (λ n. n + 1) (rw e at (c.each y small)) ∙ sym (rw e at yes))
      | inr ne ↦
          let other = ne in
          rw get_or-set_other
          (cc (c.each y small, (count_by_more_no (has y) runs k [] h (ne_eqb _ _ (λ e. ne (sym e ∙ is))))))
    ];
  }

  -- after all runs
  pub counted_all : (counts : List ℕ) (k : ℕ) → length runs ≤ k → Counted counts k → AreLevelCounts q places runs counts
  counted_all counts k past c =
      record { len = c.len; each = λ y h. rw (take_all k runs past) at (c.each y h) }

  -- equally often, as a fact
  abbrev pub AreBalanced : Type 0
  AreBalanced =
      (y z : ℕ) → y < q ^ length places → z < q ^ length places
      → level_count q places y runs ≡ level_count q places z runs

  pub levels_decide : Decides (are_levels_balanced q places runs) AreBalanced
  unfolding are_levels_balanced
  levels_decide =
      let n = q ^ length places in
      let outer =
      range_decides
      (λ y. list_all (λ z. eqb (level_count q places y runs) (level_count q places z runs)) (range_with_len 0 n))
      n in
      let inner = λ (y : ℕ). range_decides (λ z. eqb (level_count q places y runs) (level_count q places z runs)) n in (
        λ e y z hy hz. eqb-true _ _ ((inner y).0 (outer.0 e y hy) z hz),
        λ even. outer.1 (λ y hy. (inner y).1 (λ z hz. eq-eqb _ _ (even y z hy hz))),
      )

  -- equal counts are balance
  pub counts_tell : (counts : List ℕ) (b : Bool) → 0 < q ^ length places → AreLevelCounts q places runs counts
      → IsTrue b ↔ AreEqual counts → b ≡ are_levels_balanced q places runs
  counts_tell counts b some c told =
      bool_same b _
      (λ e. levels_decide.1
      (λ y z hy hz. sym (c.each y hy) ∙ told.0 e y (omega arith) ∙ sym (told.0 e z (omega arith))
      ∙ c.each z hz))
      (λ e. told.1
      (λ y h.
      let low : y < q ^ length places = omega arith in
      c.each y low ∙ levels_decide.0 e y 0 low some ∙ sym (c.each 0 some)))

-- four factors have at most 6,561 levels
pub levels_fit : (q k : ℕ) → IsTrue (is_order q) → k ≤ 4 → q ^ k < 2 ^ 64
levels_fit q k known few =
    let more : 9 ^ k ≤ 9 ^ 4 = pow-le-pow_right (omega arith) few in
    let less = pow-le-pow_left (order-bounds q known).1 k in
    omega (arith, more, less)

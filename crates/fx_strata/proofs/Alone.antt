-- A word of two factors is clear where no main effect and no other word of two factors is aliased with it.
use Rattle.std.proofs.Common.{ℕ, ◌≡◌, ◌<◌, ◌≤◌, ◌+◌, ◌-◌, ◌^◌, suc, Bool, true, false, cond, eqb, ◌&&◌, List, []}
use Rattle.std.proofs.Common.{◌∷◌, ◌++◌, length, refl, sym, subst, ◌∙◌, ap, arith, inl, inr, ◌⊎◌, eqb-true, eq-eqb}
use Rattle.std.specs.List.{AllByRecursion, sum_by, range_with_len, list_any}
use Rattle.std.proofs.lemmas.Bool.{cases_Bool, cases_eq, cond-true, cond-false, and_parts, and_from, or_from}
use Rattle.std.proofs.lemmas.Bool.{or_left, both_ways, le-ltb}
use Rattle.std.proofs.lemmas.List.Elements.{recursion_from_All}
use Rattle.fx_designs.specs.Galois.{mul, inv, IsField, number}
use Rattle.fx_designs.specs.Vectors.{IsVector, scale, minus, same, zeros, weight, combination}
use Rattle.fx_designs.specs.Runs.{points, runs_of, is_constant, is_constant_in_blocks}
use Rattle.fx_designs.specs.Aliases.{is_aliased}
use Rattle.fx_laws.proofs.Space.{ext, AreVectors, zeros-vector, scale-vector, combination-vector}
use Rattle.fx_laws.proofs.Linear.{dot-scale}
use Rattle.fx_laws.proofs.Separation.{one-mul}
use Rattle.fx_laws.proofs.Ranks.{number-same, in_span-holds}
use Rattle.fx_laws.proofs.Raises.{none-combination, scale-combination, sum_by-le}
use Rattle.fx_laws.proofs.Shift.{all-points}
use Rattle.fx_laws.proofs.Sums.{sum_by-plus}
use Rattle.fx_laws.proofs.Forms.{scale-one}
use Rattle.fx_laws.proofs.Scalings.{scale-scale}
use Rattle.fx_reduction.proofs.Weights.{scale-weight}
use Rattle.fx_laws.proofs.Weights.{same-self, same-true}
use Rattle.fx_strata.specs.Designs.{Strata, is_effect, is_unclear, effects_of}
use Rattle.fx_strata.specs.Laws.{IsAlone, ClearAreAlone}
use Rattle.fx_strata.proofs.Runs.{in-blocks, over-all}
use Rattle.fx_strata.proofs.Unclear.{no-difference, minus-vector}
use Rattle.fx_strata.proofs.Exchanges.{found_range}
use Rattle.fx_strata.proofs.Live.{once, or-parts, not-more, at-most}

-- a multiple of u with the levels of u is u, since u has no one value on all runs
module _ (x : Strata) (f : IsField x.q) (base factors : List (List ℕ)) (hb : AreVectors x.q x.m base)
    (hf : AreVectors x.q x.m factors) (u : List ℕ) (hu : IsVector x.q (length factors) u)
    (h : IsAlone x base factors u) where
  abbrev sum-of : List ℕ → List ℕ
  sum-of v = combination x.q x.m v factors

  multiple-sum : (c : ℕ) → sum-of (scale x.q c u) ≡ scale x.q c (sum-of u)
  multiple-sum c =
      ext x.q x.m f _ _
      (combination-vector x.q x.m f (scale x.q c u) factors hf)
      (scale-vector x.q x.m f c _ (combination-vector x.q x.m f u factors hf))
      (λ p. scale-combination x.q x.m f c u factors p ∙ sym (dot-scale x.q f c (sum-of u) p))

  -- the sum of u is not zero
  some-sum : sum-of u ≡ zeros x.m → ⊥
  some-sum z =
      both_ways _ h.varies
      (in-blocks x.q x.m f factors base hf hb u hu ∙ (in_span-holds x.q x.m f base (sum-of u) (record {
        by = zeros (length base);
        vector = zeros-vector x.q _ f;
        gives = cc (none-combination x.q x.m f (length base) base hb);
      })))

  -- a factor that keeps a vector that is not zero keeps all
  factor-one : (c : ℕ) (v : List ℕ) → AllByRecursion (λ a. a < x.q) v → scale x.q c v ≡ v
      → (mul x.q c 1 ≡ 1) ⊎ AllByRecursion (λ a. a ≡ 0) v
  factor-one c [] codes e = inr tt
  factor-one c (a ∷ v) codes e =
      let head : mul x.q c a ≡ a = cc e in
      elim (cases_eq a 0) [
        | inr ne ↦
            let one = f.mul_inv a (omega arith) codes.0 in
            inl (cc (f.mul_assoc c a (inv x.q a)))
        | inl none ↦ elim (factor-one c v codes.1 (cc e)) [
          | inl y ↦ inl y
          | inr y ↦ inr (none, y)
        ]
      ]

  kept : (c : ℕ) (v : List ℕ) → AllByRecursion (λ a. a < x.q) v → mul x.q c 1 ≡ 1 → scale x.q c v ≡ v
  kept c [] codes one = refl
  kept c (a ∷ v) codes one =
      let first = one-mul x.q f a codes.0 in
      cc (f.mul_assoc c 1 a, kept c v codes.1 one)

  no-entries : (v : List ℕ) → AllByRecursion (λ a. a ≡ 0) v → v ≡ zeros (length v)
  no-entries [] h = refl
  no-entries (a ∷ v) h = cc (no-entries v h.1)

  pub equal : (v : List ℕ) → IsVector x.q (length factors) v
      → (is_constant x.q (minus x.q u v) (runs_of x.q x.m factors) && is_effect (weight v)) ≡ true → v ≡ u
  unfolding is_aliased
  equal v hv pv =
      let n = length factors in
      let runs = runs_of x.q x.m factors in
      let p = and_parts (is_constant x.q (minus x.q u v) runs) (is_effect (weight v)) pv in
      let test : ℕ → Bool = λ c. is_constant x.q (minus x.q u (scale x.q c v)) runs in
      let first : test 1 ≡ true =
      rw (scale-one x.q n f v hv) p.0 in
      let aliased : list_any test (range_with_len 1 (x.q - 1)) ≡ true =
      rw (← (let e : suc (x.q - 2) ≡ x.q - 1 = omega arith in e))
      (or_left (test 1) (list_any test (range_with_len (1 + 1) (x.q - 2))) first) in
      let r = h.alone v hv p.1 aliased in
      let su = combination-vector x.q x.m f u factors hf in
      let numbers : eqb (number x.q (sum-of v)) (number x.q (sum-of u)) ≡ true =
      cc (
        no-difference x.q x.m f u v factors hf,
        over-all x.q x.m f factors base hf hb _ (minus-vector x f base factors hb hf u v hu hv),
        p.0,
      ) in
      let sums = number-same x.q x.m f _ _ (combination-vector x.q x.m f v factors hf) su (eqb-true _ _ numbers) in
      elim (factor-one r.0 _ su.codes (cc (multiple-sum r.0, r.1))) [
        | inl one ↦ cc (kept r.0 u hu.codes one)
        | inr none ↦ absurd (some-sum (cc (no-entries _ none)))
      ]

module _ (x : Strata) (f : IsField x.q) (base factors : List (List ℕ)) (u : List ℕ)
    (hu : IsVector x.q (length factors) u) (two : weight u ≡ 2) where
  abbrev n : ℕ
  n = length factors

  abbrev ps : List (List ℕ)
  ps = points x.q (length factors)

  abbrev runs : List (List ℕ)
  runs = runs_of x.q x.m factors

  some : 0 < x.q
  some = omega arith

  abbrev P : List ℕ → Bool
  P v = is_constant x.q (minus x.q u v) runs && is_effect (weight v)

  bits-less : (a b : Bool) (p : Bool) → (a ≡ true → p ≡ true) → (b ≡ true → p ≡ true) → (a ≡ true → b ≡ true → ⊥)
      → cond {A = ℕ} a 1 0 + cond {A = ℕ} b 1 0 ≤ cond {A = ℕ} p 1 0
  bits-less true true p h k apart = absurd (apart refl refl)
  bits-less true false p h k apart = (rw (h refl) (omega arith))
  bits-less false true p h k apart = (rw (k refl) (omega arith))
  bits-less false false p h k apart = omega arith

  -- two words that are counted
  two-counted : (v : List ℕ) → IsVector x.q (length factors) v → P u ≡ true → P v ≡ true → (u ≡ v → ⊥)
      → 2 ≤ effects_of x factors u
  two-counted v hv pu pv apart =
      let a = sum_by (λ w. cond {A = ℕ} (same u w) 1 0) ps in
      let b = sum_by (λ w. cond {A = ℕ} (same v w) 1 0) ps in
      let both =
      sum_by-plus (λ w. cond {A = ℕ} (same u w) 1 0) (λ w. cond {A = ℕ} (same v w) 1 0) ps in
      omega (
        arith,
        once x.q x.m f n u hu,
        once x.q x.m f n v hv,
        sum_by-le
            (λ w. cond {A = ℕ} (same u w) 1 0 + cond {A = ℕ} (same v w) 1 0) (λ w. cond {A = ℕ} (P w) 1 0) ps
            (recursion_from_All _ ps (all-points x.q n some
            (λ w. cond {A = ℕ} (same u w) 1 0 + cond {A = ℕ} (same v w) 1 0 ≤ cond {A = ℕ} (P w) 1 0)
            (λ w hw. bits-less _ _ _
            (λ e. rw (← (same-true u w e)) pu) (λ e. rw (same-true v w e) at pv)
            (λ e k. apart (same-true u w e ∙ sym (same-true v w k)))))),
      )

  -- where all that are counted are u
  only-one : ((v : List ℕ) → IsVector x.q (length factors) v → P v ≡ true → v ≡ u) → effects_of x factors u ≤ 1
  only-one only =
      let e = once x.q x.m f n u hu in
      let less =
      sum_by-le (λ w. cond {A = ℕ} (P w) 1 0) (λ w. cond {A = ℕ} (same u w) 1 0) ps
      (recursion_from_All _ ps (all-points x.q n some
      (λ w. cond {A = ℕ} (P w) 1 0 ≤ cond {A = ℕ} (same u w) 1 0)
      (λ w hw. elim (cases_Bool (P w)) [
        | inl t ↦
            let is : same u w ≡ true = rw (only w hw t) (same-self u) in
            let one : cond {A = ℕ} (same u w) 1 0 ≡ 1 = cond-true (same u w) 1 0 is in
            let l = at-most x.q x.m f (P w) in
            omega arith
        | inr o ↦ let z : cond {A = ℕ} (P w) 1 0 ≡ 0 = cond-false (P w) 1 0 o in omega arith
      ]))) in
      omega arith

  module _ (hb : AreVectors x.q x.m base) (hf : AreVectors x.q x.m factors) where
    -- u itself is counted
    itself : P u ≡ true
    itself = and_from _ _
        (over-all x.q x.m f factors base hf hb _ (minus-vector x f base factors hb hf u u hu hu)
        ∙ no-difference x.q x.m f u u factors hf ∙ eq-eqb _ _ refl)
        (ap is_effect two)

    abbrev inside : Bool
    inside = is_constant_in_blocks x.q (length factors) (x.q ^ length base) u (runs_of x.q x.m (factors ++ base))

    to-alone : is_unclear x base factors u ≡ false → IsAlone x base factors u
    unfolding is_aliased
    to-alone h =
        let p = or-parts inside _ h in
        let few = not-more _ p.1 in
        record {
          varies = p.0;
          alone = λ v hv effect aliased.
              (let r = found_range (λ c. is_constant x.q (minus x.q u (scale x.q c v)) runs) 1 (x.q - 1) aliased in
              let c = r.0 in
              let pos : 0 < c = omega (arith, r.1) in
              let low : c < x.q = omega arith in
              let w = scale x.q c v in
              let is : same u w ≡ true = elim (cases_Bool (same u w)) [
                | inl t ↦ t
                | inr o ↦ absurd
                    (omega (
                      arith,
                      two-counted w (scale-vector x.q n f c v hv) itself
                          (and_from _ _ r.3 (ap is_effect (scale-weight x.q f c v pos low hv.codes) ∙ effect))
                          (λ e. both_ways _ o (subst (λ z. same u z ≡ true) e (same-self u))),
                    ))
              ] in (
                inv x.q c,
                cc (same-true u w is, scale-scale x.q f (inv x.q c) c v, f.mul_inv c pos low, scale-one x.q n f v hv),
              ));
        }

    from-alone : IsAlone x base factors u → is_unclear x base factors u ≡ false
    from-alone h = or_from inside _ h.varies
        (le-ltb 1 _ (only-one (λ v hv pv. h-only v hv pv)))
      where
        h-only : (v : List ℕ) → IsVector x.q (length factors) v → P v ≡ true → v ≡ u
        h-only v hv pv = equal x f base factors hb hf u hu h v hv pv

pub clear_are_alone : (x : Strata) (f : IsField x.q) → ClearAreAlone x
clear_are_alone x f base factors u hb hf hu two =
    let hb' = recursion_from_All _ base hb in
    let hf' = recursion_from_All _ factors hf in
    (to-alone x f base factors u hu two hb' hf', from-alone x f base factors u hu two hb' hf')

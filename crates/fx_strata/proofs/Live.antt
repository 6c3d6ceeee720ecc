-- The sums that can be those of clear words of two factors.
use Rattle.std.proofs.Common.{ℕ, ◌≡◌, ◌<◌, ◌≤◌, ◌+◌, ◌-◌, ◌*◌, ◌^◌, zero, suc, Bool, true, false, not, cond, eqb, ◌&&◌}
use Rattle.std.proofs.Common.{◌||◌, List, [], ◌∷◌, ◌++◌, map, length, refl, sym, subst, ◌∙◌, ap, ap₂, arith, inl, inr}
use Rattle.std.proofs.Common.{◌⊎◌, eqb-true, eq-eqb, append-nil}
use Rattle.std.specs.Prelude.{nat_lt, count_by}
use Rattle.std.specs.List.{AllByRecursion, sum_by, range_with_len}
use Rattle.std.proofs.lemmas.Bool.{cases_Bool, cases_eq, cond-true, cond-false, and_parts, and_from, ne_eqb, both_ways}
use Rattle.std.proofs.lemmas.Bool.{lt-ltb, ltb-true, false_from_ne_true}
use Rattle.std.proofs.lemmas.Bool.Decides.{nat_tests}
use Rattle.std.proofs.lemmas.List.{length-map, map-append}
use Rattle.std.proofs.lemmas.List.Sums.{sum_by-cons}
use Rattle.std.proofs.lemmas.List.FromFn.{length-range_with_len}
use Rattle.std.proofs.lemmas.List.Elements.{recursion_from_All}
use Rattle.fx_designs.specs.Galois.{neg, inv, IsField, number, digits, codes_of}
use Rattle.fx_designs.specs.Vectors.{IsVector, dot, plus, scale, minus, same, zeros, weight, is_zero, combination}
use Rattle.fx_designs.specs.Vectors.{vectors_of}
use Rattle.fx_designs.specs.Runs.{points}
use Rattle.fx_designs.specs.Spans.{in_span}
use Rattle.fx_laws.specs.Changes.{IsChange}
use Rattle.fx_laws.specs.Scalings.{AreScalars, scaled}
use Rattle.fx_laws.proofs.Codes.{number-below, digits-number, number-digits, digits-vector}
use Rattle.fx_laws.proofs.Space.{ext, AreVectors, plus-vector, scale-vector, combination-vector}
use Rattle.fx_laws.proofs.Shift.{all-points, points-sum}
use Rattle.fx_laws.proofs.Sums.{sum_by-ext, sum_by-plus, sum_by-zero, sum_by-constant, sum_by-swap, sum_by-same}
use Rattle.fx_laws.proofs.Sums.{sum_by-pick, sum_by_map}
use Rattle.fx_laws.proofs.Tests.{bool_same}
use Rattle.fx_laws.proofs.Raises.{sum_by-each, sum_by-le}
use Rattle.fx_laws.proofs.Ranks.{short-scale, plus-zero}
use Rattle.fx_laws.proofs.Forms.{scale-one}
use Rattle.fx_laws.proofs.Scalings.{scale-scale}
use Rattle.fx_laws.proofs.Linear.{dot-plus, dot-scale}
use Rattle.fx_laws.proofs.Weights.{zeros_from_weight}
use Rattle.fx_laws.proofs.CanonicalTest.{rows-vectors}
use Rattle.fx_reduction.proofs.Weights.{weight-minus, minus-apart}
use Rattle.fx_words.specs.Spreads.{spread}
use Rattle.fx_base.proofs.Ranges.{each-range}
use Rattle.fx_base.proofs.Numbers.{eqb_comm}
use Rattle.fx_laws.proofs.Weights.{same-self}
use Rattle.fx_strata.specs.Designs.{Strata, is_effect, is_unclear}
use Rattle.fx_strata.specs.Words.{words_in}
use Rattle.fx_strata.specs.Sums.{effects_at, is_unclear_sum}
use Rattle.fx_strata.specs.Canonical.{base, unclear}
use Rattle.fx_strata.specs.Clear.{is_live, live_sums, is_clear_sum, pairs}
use Rattle.fx_strata.specs.Laws.{ClearOrNot}
use Rattle.fx_strata.proofs.Totals.{total, total-cons, total-same, total-more, codes-split, rest, bit, counted}
use Rattle.fx_strata.proofs.Totals.{total-changed, total-scaled, total-turned, added}
use Rattle.fx_strata.proofs.Free.{IsFree, word-free}
use Rattle.fx_strata.proofs.Moved.{in-base, base-in, unscaled}
use Rattle.fx_strata.proofs.Unclear.{effects-total, no-difference, same-number}
use Rattle.fx_strata.proofs.Clearer.{total-longer}

module _ (q m : ℕ) (f : IsField q) where
  some : 0 < q
  some = omega arith

  -- of the words of weight k those whose sum has the number n
  abbrev pub hit : ℕ → ℕ → ℕ → List ℕ → ℕ
  hit k n j s = cond (eqb (number q s) n && eqb j k) 1 0

  pub spread-total : (rows : List (List ℕ)) (k n : ℕ) → spread q m rows k n ≡ total q m f (hit k n) rows
  unfolding spread
  spread-total rows k n = refl

  -- a total, sum by sum
  abbrev at-number : (ℕ → List ℕ → ℕ) → ℕ → ℕ → List ℕ → ℕ
  at-number g n j v = cond (eqb n (number q v)) (g j v) 0

  pub by-number : (g : ℕ → List ℕ → ℕ) (rows : List (List ℕ)) → AreVectors q m rows
      → total q m f g rows ≡ sum_by (λ n. total q m f (at-number g n) rows) (range_with_len 0 (q ^ m))
  by-number g rows hr =
      let ps = points q (length rows) in
      let ns = range_with_len 0 (q ^ m) in
      let value : List ℕ → ℕ = λ u. g (weight u) (combination q m u rows) in
      sum_by-each value (λ u. sum_by (λ n. at-number g n (weight u) (combination q m u rows)) ns) ps
      (recursion_from_All _ ps (all-points q (length rows) some
      (λ u. value u ≡ sum_by (λ n. at-number g n (weight u) (combination q m u rows)) ns)
      (λ u hu.
      let below =
      number-below q m _ (combination-vector q m f u rows hr) in
      sym (sum_by-pick (λ n. value u) (number q (combination q m u rows)) 0 (q ^ m) (omega arith) (omega arith)))))
      ∙ sum_by-swap (λ u n. at-number g n (weight u) (combination q m u rows)) ps ns

  -- how many words there are of one factor, and of two
  abbrev weighs : ℕ → ℕ → List ℕ → ℕ
  weighs k j v = cond (eqb j k) 1 0

  one-more : (k j : ℕ) → eqb (1 + j) (suc k) ≡ eqb j k
  one-more k j = bool_same _ _
      (λ e. eq-eqb j k (omega (arith, eqb-true _ _ e)))
      (λ e. eq-eqb (1 + j) (suc k) (omega (arith, eqb-true j k e)))

  weighs-split : (k : ℕ) (r : List ℕ) (rows : List (List ℕ))
      → total q m f (weighs k) (r ∷ rows)
      ≡ total q m f (weighs k) rows
      + sum_by (λ c. total q m f (rest q m f (weighs k) r c) rows) (range_with_len 1 (q - 1))
  weighs-split k r rows =
      cc (
        total-cons q m f (weighs k) r rows,
        codes-split q m f (λ c. total q m f (rest q m f (weighs k) r c) rows),
        sum_by-ext _ _ (points q (length rows))
            (λ u. ap (λ j. cond {A = ℕ} (eqb j k) 1 0) (let e : 0 + weight u ≡ weight u = omega arith in e)),
      )

  bit-one : (c : ℕ) → 1 ≤ c → bit q m f c ≡ 1
  bit-one c h = cond-true _ 1 0 (lt-ltb 0 c h)

  weighs-more : (k : ℕ) (r : List ℕ) (rows : List (List ℕ))
      → total q m f (weighs (suc k)) (r ∷ rows)
      ≡ total q m f (weighs (suc k)) rows + (q - 1) * total q m f (weighs k) rows
  weighs-more k r rows =
      cc (
        weighs-split (suc k) r rows,
        sum_by-same (λ c. total q m f (rest q m f (weighs (suc k)) r c) rows) (λ c. total q m f (weighs k) rows) 1
            (q - 1) (λ c low high. sum_by-ext _ _ (points q (length rows))
            (λ u. ap (λ (b : ℕ). cond {A = ℕ} (eqb (b + weight u) (suc k)) 1 0) (bit-one c low)
            ∙ ap (λ b. cond {A = ℕ} b 1 0) (one-more k (weight u)))),
        sum_by-constant (total q m f (weighs k) rows) (range_with_len 1 (q - 1)),
        length-range_with_len 1 (q - 1),
      )

  none-weigh : (rows : List (List ℕ)) → total q m f (weighs 0) rows ≡ 1
  none-weigh [] = refl
  none-weigh (r ∷ rows) =
      cc (
        weighs-split 0 r rows,
        none-weigh rows,
        sum_by-same (λ c. total q m f (rest q m f (weighs 0) r c) rows) (λ c. 0) 1 (q - 1)
            (λ c low high. sum_by-ext _ (λ u. 0) (points q (length rows))
            (λ u. ap (λ b. cond {A = ℕ} (eqb (b + weight u) 0) 1 0) (bit-one c low)
            ∙ ap (λ b. cond {A = ℕ} b 1 0) (ne_eqb (1 + weight u) 0 (λ e. omega arith)))
            ∙ sum_by-zero (points q (length rows))),
        sum_by-zero (range_with_len 1 (q - 1)),
      )

  ones-weigh : (rows : List (List ℕ)) → total q m f (weighs 1) rows ≡ (q - 1) * length rows
  ones-weigh [] = (let e : 0 ≡ (q - 1) * 0 = grind arith in e)
  ones-weigh (r ∷ rows) =
      weighs-more 0 r rows
      ∙ ap₂ (λ a b. a + (q - 1) * b) (ones-weigh rows) (none-weigh rows)
      ∙ (let e : (q - 1) * length rows + (q - 1) * 1 ≡ (q - 1) * suc (length rows) = grind arith in e)

  pub pairs-weigh : (rows : List (List ℕ)) → total q m f (weighs 2) rows ≡ pairs q (length rows)
  pairs-weigh [] = refl
  pairs-weigh (r ∷ rows) =
      cc (weighs-more 1 r rows, pairs-weigh rows, ones-weigh rows)

  -- of one factor or two
  parted : (e : Bool) (j : ℕ) → cond {A = ℕ} (e && is_effect j) 1 0
      ≡ cond (e && eqb j 1) 1 0 + cond (e && eqb j 2) 1 0
  parted false j = refl
  parted true zero = refl
  parted true (suc zero) = refl
  parted true (suc (suc zero)) = refl
  parted true (suc (suc (suc j))) =
      let one = ne_eqb (suc (suc (suc j))) 1 (λ e. omega arith) in
      let two = ne_eqb (suc (suc (suc j))) 2 (λ e. omega arith) in
      rw (one, two)

  pub effects-parts : (rows : List (List ℕ)) (v : List ℕ)
      → effects_at q m rows v ≡ spread q m rows 1 (number q v) + spread q m rows 2 (number q v)
  effects-parts rows v =
      cc (
        effects-total q m f rows v,
        sum_by-ext _ _ (points q (length rows))
            (λ u. parted (eqb (number q (combination q m u rows)) (number q v)) (weight u)),
        sum_by-plus (λ u. hit 1 (number q v) (weight u) (combination q m u rows))
            (λ u. hit 2 (number q v) (weight u) (combination q m u rows)) (points q (length rows)),
        spread-total rows 1 (number q v),
        spread-total rows 2 (number q v),
      )

  -- a vector is once among all
  fold : (e s : Bool) (c a : ℕ) → cond {A = ℕ} (e && s) 1 0 ≡ cond e (cond {A = ℕ} s 1 0) 0
  fold true s c a = refl
  fold false s c a = refl

  pick-cond : (b : Bool) (ps : List (List ℕ)) (s : List ℕ → ℕ)
      → sum_by (λ p. cond b (s p) 0) ps ≡ cond b (sum_by s ps) 0
  pick-cond true ps s = refl
  pick-cond false ps s = sum_by-zero ps

  pub once : (n : ℕ) (u : List ℕ) → IsVector q n u → sum_by (λ w. cond {A = ℕ} (same u w) 1 0) (points q n) ≡ 1
  once zero [] h = refl
  once zero (a ∷ u) h = absurd (let e = h.len in omega arith)
  once (suc n) [] h = absurd (let e = h.len in omega arith)
  once (suc n) (a ∷ u) h =
      let hu : IsVector q n u = record { len = (let e = h.len in omega arith); codes = h.codes.1 } in
      let low = h.codes.0 in
      let inner = sum_by (λ p. cond {A = ℕ} (same u p) 1 0) (points q n) in
      points-sum q n (λ w. cond {A = ℕ} (same (a ∷ u) w) 1 0)
      ∙ sum_by-ext _ (λ c. cond (eqb c a) inner 0) (codes_of q) (λ c.
      sum_by-ext _ (λ p. cond (eqb c a) (cond {A = ℕ} (same u p) 1 0) 0) (points q n)
      (λ p. cc (fold (eqb a c) (same u p) c a, eqb_comm a c))
      ∙ pick-cond (eqb c a) (points q n) (λ p. cond {A = ℕ} (same u p) 1 0))
      ∙ sum_by-pick (λ c. inner) a 0 q (omega arith) (omega arith)
      ∙ once n u hu

  -- of rows without words of one or two, no two multiples are the same
  pub all-or : {X : Type 0} (Q : Type 0) (g : X → ℕ) (xs : List X) → AllByRecursion (λ x. (g x ≡ 0) ⊎ Q) xs
      → (sum_by g xs ≡ 0) ⊎ Q
  all-or Q g [] h = inl refl
  all-or Q g (x ∷ xs) h = elim (h.0) [
    | inr y ↦ inr y
    | inl e ↦ elim (all-or Q g xs h.1) [
      | inr y ↦ inr y
      | inl e' ↦ inl (omega (arith, sum_by-cons g x xs))
    ]
  ]

  pub at-most : (b : Bool) → cond {A = ℕ} b 1 0 ≤ 1
  at-most true = omega arith
  at-most false = omega arith

  pub multiples-once : (rows : List (List ℕ)) → AreVectors q m rows → IsFree q m f rows → (n : ℕ)
      → spread q m rows 1 n ≤ 1
  multiples-once rows hr free n =
      let k = length rows in
      let ps = points q k in
      let P : List ℕ → Bool = λ u. eqb (number q (combination q m u rows)) n && eqb (weight u) 1 in
      let C = sum_by (λ u. cond {A = ℕ} (P u) 1 0) ps in
      let is = spread-total rows 1 n in
      let no-two : (u w : List ℕ) → IsVector q k u → IsVector q k w → P u ≡ true → P w ≡ true → (u ≡ w → ⊥) → ⊥ =
      λ u w hu hw pu pw apart.
      let a = and_parts _ _ pu in
      let b = and_parts (eqb (number q (combination q m w rows)) n) (eqb (weight w) 1) pw in
      let one : weight u ≡ 1 = eqb-true _ _ a.1 in
      let two : weight w ≡ 1 = eqb-true _ _ b.1 in
      let same-sum : number q (combination q m w rows) ≡ number q (combination q m u rows) =
      eqb-true _ _ b.0 ∙ sym (eqb-true _ _ a.0) in
      let zero_sum : is_zero (combination q m (minus q u w) rows) ≡ true =
      no-difference q m f u w rows hr ∙ eq-eqb _ _ same-sum in
      let hd : IsVector q k (minus q u w) =
      plus-vector q k f u (scale q (neg q 1) w) hu (scale-vector q k f (neg q 1) w hw) in
      let hc = combination-vector q m f (minus q u w) rows hr in
      let few = weight-minus q f k u w hu hw in
      let pos = minus-apart q f k u w hu hw apart in
      word-free q m f rows free (minus q u w) hd pos (omega arith)
      (zeros_from_weight (combination q m (minus q u w) rows) m hc.len (eqb-true _ _ zero_sum)) in
      let each : (u w : List ℕ) → IsVector q k u → IsVector q k w → P u ≡ true
      → cond {A = ℕ} (P w) 1 0 ≤ cond {A = ℕ} (same u w) 1 0 =
      λ u w hu hw pu. elim (cases_Bool (same u w)) [
        | inl t ↦ subst (λ z. cond {A = ℕ} (P w) 1 0 ≤ z) (sym (cond-true (same u w) 1 0 t)) (at-most (P w))
        | inr o ↦
            let none : P w ≡ false = false_from_ne_true (P w) (λ pw. no-two u w hu hw pu pw
            (λ e. both_ways (same u w) o (subst (λ z. same u z ≡ true) e (same-self u)))) in
            let z : cond {A = ℕ} (P w) 1 0 ≡ 0 = cond-false (P w) 1 0 none in
            omega arith
      ] in
      let short : (u : List ℕ) → IsVector q k u → P u ≡ true → C ≤ 1 = λ u hu pu.
      omega (
        arith,
        sum_by-le (λ w. cond {A = ℕ} (P w) 1 0) (λ w. cond {A = ℕ} (same u w) 1 0) ps
            (recursion_from_All _ ps (all-points q k some
            (λ w. cond {A = ℕ} (P w) 1 0 ≤ cond {A = ℕ} (same u w) 1 0) (λ w hw. each u w hu hw pu))),
        once k u hu,
      ) in
      elim (all-or (C ≤ 1) (λ u. cond {A = ℕ} (P u) 1 0) ps (recursion_from_All _ ps (all-points q k some
      (λ u. (cond {A = ℕ} (P u) 1 0 ≡ 0) ⊎ (C ≤ 1)) (λ u hu. elim (cases_Bool (P u)) [
        | inl t ↦ inr (short u hu t)
        | inr o ↦ inl (cond-false _ 1 0 o)
      ])))) [
        | inl e ↦ omega arith
        | inr l ↦ omega arith
      ]

  -- a multiple is a change of the run indexes
  scale-zeros : (c n : ℕ) → scale q c (zeros n) ≡ zeros n
  scale-zeros c zero = refl
  scale-zeros c (suc n) = cc (f.mul_zero c, scale-zeros c n)

  pub scaling : (c : ℕ) → 0 < c → c < q → IsChange q m (λ v. scale q c v)
  scaling c pos low = record {
    vector = λ v hv. scale-vector q m f c v hv;
    sums = λ v w hv hw. ext q m f _ _
        (scale-vector q m f c _ (plus-vector q m f v w hv hw))
        (plus-vector q m f _ _ (scale-vector q m f c v hv) (scale-vector q m f c w hw))
        (λ p. cc (
          dot-scale q f c (plus q v w) p,
          dot-plus q f v w p,
          f.distributes c (dot q v p) (dot q w p),
          dot-scale q f c v p,
          dot-scale q f c w p,
          dot-plus q f (scale q c v) (scale q c w) p,
        ));
    multiples = λ a v hv.
        cc (scale-scale q f c a v, f.mul_comm a c, scale-scale q f a c v);
    zero_alone = λ v hv e.
        cc (scale-scale q f (inv q c) c v, f.mul_inv c pos low, scale-one q m f v hv, scale-zeros (inv q c) m);
  }

  pub are-scalars : (c : ℕ) → 0 < c → c < q → (rows : List (List ℕ)) → AreScalars q (map (λ r. c) rows)
  are-scalars c pos low [] = tt
  are-scalars c pos low (r ∷ rows) = ((pos, low), are-scalars c pos low rows)

  pub each-scaled : (c : ℕ) (rows : List (List ℕ)) → scaled q (map (λ r. c) rows) rows ≡ map (λ v. scale q c v) rows
  each-scaled c [] = refl
  each-scaled c (r ∷ rows) = cc (each-scaled c rows)

  pub spread-scaled : (c : ℕ) → 0 < c → c < q → (rows : List (List ℕ)) → AreVectors q m rows → (k : ℕ) (v : List ℕ)
      → IsVector q m v → spread q m rows k (number q (scale q c v)) ≡ spread q m rows k (number q v)
  spread-scaled c pos low rows hr k v hv =
      let n = number q (scale q c v) in
      cc (
        spread-total rows k n,
        total-scaled q m f (hit k n) _ rows (are-scalars c pos low rows) (length-map rows (λ r. c)),
        each-scaled c rows,
        total-changed q m f (hit k n) _ (scaling c pos low) rows hr,
        total-same q m f (hit k (number q v)) (λ j s. hit k n j (scale q c s)) rows rows refl
            (λ u hu. cc (same-number q m f _ (scaling c pos low) v _ hv
            (combination-vector q m f u rows hr))),
        spread-total rows k (number q v),
      )

  none-either : (b : Bool) → cond {A = ℕ} b 0 0 ≡ 0
  none-either true = refl
  none-either false = refl

  -- the words of a weight with one sum, where the sum passes a test
  pub at-pick : (n : ℕ) (rows : List (List ℕ)) → AreVectors q m rows → (G : List ℕ → Bool) (k : ℕ)
      → total q m f (λ j v. cond (eqb n (number q v)) (cond {A = ℕ} (G v && eqb j k) 1 0) 0) rows
      ≡ cond (G (digits q m n)) (spread q m rows k n) 0
  at-pick n rows hr G k =
      let dn = digits q m n in
      cc (
        total-same q m f (λ j v. cond (G dn) (hit k n j v) 0)
            (λ j v. cond (eqb n (number q v)) (cond {A = ℕ} (G v && eqb j k) 1 0) 0) rows rows refl
            (λ u hu. let v = combination q m u rows in let b = eqb (weight u)
            k in elim (cases_eq n (number q v)) [
              | inl e ↦ let is : v ≡ dn = cc (digits-number q m v (combination-vector q m f u
                  rows
                  hr)) in cc (
                    cond-true _ (cond {A = ℕ} (G v && b) 1 0) 0
                        (eq-eqb n _ e),
                    fold (G dn) b 0 0,
                    eq-eqb _ n (sym e),
                  )
              | inr
                  ne ↦ cc (
                    cond-false _ (cond {A = ℕ} (G v && b) 1 0) 0 (ne_eqb n _ ne),
                    ne_eqb (number q v) n
                        (λ e. ne (sym e)),
                    none-either (G dn),
                  )
            ]),
        pick-cond (G dn) (points q (length rows)) (λ u. hit k n (weight u) (combination q m u rows)),
        spread-total rows k n,
      )

pub or-parts : (a b : Bool) → (a || b) ≡ false → (a ≡ false) × (b ≡ false)
or-parts true b e = cc e
or-parts false b e = (refl, e)

pub not-more : (n : ℕ) → nat_lt 1 n ≡ false → n ≤ 1
not-more n e = grind (arith, nat_tests, e)

halves : (u e : Bool) → cond {A = ℕ} (u && e) 1 0 + cond (not u && e) 1 0 ≡ cond e 1 0
halves true true = refl
halves true false = refl
halves false true = refl
halves false false = refl

-- what makes a sum that of a clear word
told : (i : Bool) (a b : ℕ) → cond (not (i || nat_lt 1 (a + b))) b 0
    ≡ cond {A = ℕ} ((not i && (eqb a 0 && nat_lt b 2)) && eqb b 1) 1 0
told true a b = refl
told false zero zero = refl
told false zero (suc zero) = refl
told false zero (suc (suc b)) =
    let e2 : nat_lt (suc (suc b)) 2 ≡ false =
    false_from_ne_true _
    (λ t. let l : suc (suc b) < 2 = ltb-true _ _ t in omega (arith, ne_eqb (suc (suc b)) 1 (λ k. omega arith))) in
    rw (lt-ltb 1 (0 + suc (suc b)) (omega arith), e2)
told false (suc a) zero = rw (ne_eqb (suc a) 0 (λ k. omega arith)) (either _)
  where
    either : (b : Bool) → cond {A = ℕ} (not b) 0 0 ≡ 0
    either true = refl
    either false = refl
told false (suc a) (suc b) =
    rw (lt-ltb 1 (suc a + suc b) (omega arith), ne_eqb (suc a) 0 (λ k. omega arith))

module _ (x : Strata) (f : IsField x.q) (room : x.h ≤ x.m) (c s : List ℕ) where
  abbrev C : List (List ℕ)
  C = vectors_of x.q x.m c

  abbrev R : List (List ℕ)
  R = vectors_of x.q x.m (c ++ s)

  hC : AreVectors x.q x.m C
  hC = rows-vectors x.q x.m f c

  hR : AreVectors x.q x.m R
  hR = rows-vectors x.q x.m f _

  positive : 0 < x.q
  positive = omega arith

  abbrev L : List ℕ → Bool
  L v = is_live x c v

  abbrev U : List ℕ → Bool
  U v = is_unclear_sum x (base x) R v

  abbrev clears : ℕ → List ℕ → ℕ
  clears j v = cond (not (U v) && eqb j 2) 1 0

  abbrev mains : ℕ → List ℕ → ℕ
  mains j v = cond (L v && eqb j 1) 1 0

  -- a sum is that of a clear word, or of a live main effect, at most once, and only where it is live
  module _ (free : IsFree x.q x.m f R) where
    per-sum : (n : ℕ) → n < x.q ^ x.m
        → total x.q x.m f (λ j v. cond (eqb n (number x.q v)) (clears j v) 0) R
        + total x.q x.m f (λ j v. cond (eqb n (number x.q v)) (mains j v) 0) R
        ≤ cond (L (digits x.q x.m n)) 1 0
    per-sum n low =
        let d = digits x.q x.m n in
        let here = number-digits x.q x.m n positive low in
        let one = spread x.q x.m R 1 n in
        let two = spread x.q x.m R 2 n in
        let t = at-pick x.q x.m f n R hR (λ v. not (U v)) 2 in
        let k = at-pick x.q x.m f n R hR L 1 in
        let most : one ≤ 1 = multiples-once x.q x.m f R hR free n in
        elim (cases_Bool (U d)) [
          | inl u ↦
              let t0 : cond (not (U d)) two 0 ≡ 0 = cond-false (not (U d)) two 0 (ap not u) in
              elim (cases_Bool (L d)) [
                | inl l ↦
                    let k1 : cond (L d) one 0 ≡ one = cond-true (L d) one 0 l in
                    let g1 : cond {A = ℕ} (L d) 1 0 ≡ 1 = cond-true (L d) 1 0 l in
                    omega arith
                | inr l ↦
                    omega (arith, cond-false (L d) one 0 l)
              ]
          | inr o ↦
              let p = or-parts (in_span x.q x.m (base x) d) (nat_lt 1 (effects_at x.q x.m R d)) o in
              let few : effects_at x.q x.m R d ≤ 1 = not-more (effects_at x.q x.m R d) p.1 in
              let sum : effects_at x.q x.m R d ≡ one + two =
              cc (effects-parts x.q x.m f R d, here) in
              let t1 : cond (not (U d)) two 0 ≡ two = cond-true (not (U d)) two 0 (ap not o) in
              elim (cases_Bool (L d)) [
                | inl l ↦
                    let k1 : cond (L d) one 0 ≡ one = cond-true (L d) one 0 l in
                    let g1 : cond {A = ℕ} (L d) 1 0 ≡ 1 = cond-true (L d) 1 0 l in
                    omega arith
                | inr l ↦
                    let k1 = cond-false _ one 0 l in
                    elim (cases_eq two 0) [
                      | inl z ↦ omega arith
                      | inr nz ↦
                          let less : (k : ℕ) → spread x.q x.m C k n ≤ spread x.q x.m R k n = λ k.
                          omega (
                            arith,
                            spread-total x.q x.m f C k n,
                            spread-total x.q x.m f R k n,
                            total-longer x f
                                (hit x.q x.m f k n) c s,
                          ) in
                          let l1 = less 1 in
                          let l2 = less 2 in
                          let none : spread x.q x.m C 1 n ≡ 0 = omega arith in
                          let low2 : spread x.q x.m C 2 n < 2 = omega arith in
                          let live : L d ≡ true =
                          and_from _ _ (ap not p.0)
                          (and_from _ _ (eq-eqb _ _ (cc (here, none)))
                          (lt-ltb _ _ (rw (← here) at low2))) in
                          absurd (both_ways _ l live)
                    ]
              ]
        ]

    -- clear words and live main effects are no more than the live sums
    bounded : total x.q x.m f clears R + total x.q x.m f mains R ≤ live_sums x c
    bounded =
        let ns = range_with_len 0 (x.q ^ x.m) in
        let a : ℕ → ℕ = λ n. total x.q x.m f (λ j v. cond (eqb n (number x.q v)) (clears j v) 0) R in
        let b : ℕ → ℕ = λ n. total x.q x.m f (λ j v. cond (eqb n (number x.q v)) (mains j v) 0) R in
        let e1 = by-number x.q x.m f clears R hR in
        let e2 = by-number x.q x.m f mains R hR in
        let both = sum_by-plus a b ns in
        omega (
          arith,
          sum_by-le _ _ ns
              (each-range (λ n. a n + b n ≤ cond (L (digits x.q x.m n)) 1 0) 0 (x.q ^ x.m)
              (λ n low high. per-sum n (omega arith))),
        )

  -- the words of two factors are clear or not
  all-words : unclear x (c ++ s) + total x.q x.m f clears R ≡ pairs x.q (length R)
  unfolding words_in
  all-words =
      sym (sum_by-plus (λ u. counted x.q x.m f U 2 (weight u) (combination x.q x.m u R))
      (λ u. clears (weight u) (combination x.q x.m u R)) (points x.q (length R)))
      ∙ sum_by-ext _ _ (points x.q (length R))
      (λ u. halves (U (combination x.q x.m u R)) (eqb (weight u) 2))
      ∙ pairs-weigh x.q x.m f R

  -- a multiple of a live sum is live
  pub span-scaled : (a : ℕ) (v : List ℕ) → 0 < a → a < x.q → IsVector x.q x.m v
      → in_span x.q x.m (base x) (scale x.q a v) ≡ in_span x.q x.m (base x) v
  span-scaled a v pos low hv =
      let hs = scale-vector x.q x.m f a v hv in
      bool_same _ _
      (λ e. base-in x f room v hv (unscaled x f room a v pos low hv (in-base x f room _ hs e)))
      (λ e. base-in x f room _ hs (short-scale x.q x.h a f v (in-base x f room v hv e)))

  live-scaled : (a : ℕ) (v : List ℕ) → 0 < a → a < x.q → IsVector x.q x.m v → L (scale x.q a v) ≡ L v
  live-scaled a v pos low hv =
      cc (
        span-scaled a v pos low hv,
        spread-scaled x.q x.m f a pos low C hC 1 v hv,
        spread-scaled x.q x.m f a pos low C hC 2 v hv,
      )

  -- a main effect and its multiples
  alone : (g : ℕ → List ℕ → ℕ) → total x.q x.m f g [] ≡ g 0 (zeros x.m)
  alone g = sum_by-cons (λ u. g (weight u) (combination x.q x.m u [])) [] []
      ∙ (let e : g 0 (zeros x.m) + 0 ≡ g 0 (zeros x.m) = omega arith in e)

  one-row : (v : List ℕ) → IsVector x.q x.m v
      → (x.q - 1) * cond (L v) 1 0 ≤ added x.q x.m f mains [] v
  one-row v hv =
      let first =
      total-cons x.q x.m f mains v [] ∙ codes-split x.q x.m f (λ a. total x.q x.m f (rest x.q x.m f mains v a) []) in
      let others : sum_by (λ a. total x.q x.m f (rest x.q x.m f mains v a) []) (range_with_len 1 (x.q - 1))
      ≡ (x.q - 1) * cond (L v) 1 0 =
      cc (
        sum_by-same (λ a. total x.q x.m f (rest x.q x.m f mains v a) []) (λ a. cond (L v) 1 0) 1 (x.q - 1)
            (λ a low high. let pos : 0 < a = omega arith in alone
            (rest x.q x.m f mains v a)
            ∙ ap₂ (λ b z. cond {A = ℕ} (L z && eqb (b + 0) 1) 1 0) (cond-true _ 1 0 (lt-ltb 0 a pos))
            (plus-zero x.q x.m f _ (scale-vector x.q x.m f a v hv))
            ∙ ap (λ b. cond {A = ℕ} (b && true) 1 0) (live-scaled a v pos (omega arith) hv) ∙ fold x.q x.m f (L v) true
            0 0),
        sum_by-constant (cond {A = ℕ} (L v) 1 0) (range_with_len 1 (x.q - 1)),
        length-range_with_len 1 (x.q - 1),
      ) in
      omega (arith, alone mains ∙ cond-false _ 1 0 (never (L (zeros x.m))))
    where
      never : (b : Bool) → (b && eqb 0 1) ≡ false
      never true = refl
      never false = refl

  module _ (xs behind : List ℕ) (is : s ≡ xs ++ behind) where
    rows-live : (x.q - 1) * sum_by (λ r. cond {A = ℕ} (L (digits x.q x.m r)) 1 0) xs ≤ total x.q x.m f mains R
    rows-live =
        let X = vectors_of x.q x.m xs in
        let more =
        total-more x.q x.m f mains X [] (rows-vectors x.q x.m f xs) tt in
        let whole : total x.q x.m f mains (X ++ []) ≡ total x.q x.m f mains X =
        cc (append-nil X) in
        let each =
        sum_by-le _ _ xs (all-rows xs) in
        let mapped =
        sum_by_map (added x.q x.m f mains []) (digits x.q x.m) xs in
        let out = times-sum (x.q - 1) (λ r. cond {A = ℕ} (L (digits x.q x.m r)) 1 0) xs in
        let l1 =
        total-longer x f mains xs behind in
        let l2 =
        total-longer x f mains (xs ++ behind) c in
        let l3 : total x.q x.m f mains (vectors_of x.q x.m ((xs ++ behind) ++ c)) ≡ total x.q x.m f mains R =
        cc (
          map-append (digits x.q x.m) (xs ++ behind) c,
          total-turned x.q x.m f mains (vectors_of x.q x.m (xs ++ behind)) C,
          map-append (digits x.q x.m) c (xs ++ behind),
        ) in
        omega arith
      where
        all-rows : (ys : List ℕ) → AllByRecursion (λ r. (x.q - 1) * cond {A = ℕ} (L (digits x.q x.m r)) 1 0
            ≤ added x.q x.m f mains [] (digits x.q x.m r)) ys
        all-rows [] = tt
        all-rows (r ∷ ys) = (one-row _ (digits-vector x.q x.m r positive), all-rows ys)

        times-sum : (a : ℕ) (g : ℕ → ℕ) (ys : List ℕ) → sum_by (λ r. a * g r) ys ≡ a * sum_by g ys
        times-sum a g [] = grind arith
        times-sum a g (y ∷ ys) =
            let e = sum_by-cons (λ r. a * g r) y ys in
            let e' = sum_by-cons g y ys in
            cc (times-sum a g ys, distributed a (g y) (sum_by g ys))
          where
            distributed : (a b c : ℕ) → a * b + a * c ≡ a * (b + c)
            distributed a b c = grind arith

    -- at least so many words of two factors are not clear
    pub not-clear : IsFree x.q x.m f R
        → pairs x.q (length (c ++ s)) + (x.q - 1) * sum_by (λ r. cond {A = ℕ} (L (digits x.q x.m r)) 1 0) xs
        ≤ unclear x (c ++ s) + live_sums x c
    not-clear free =
        let b = all-words in
        let k = rows-live in
        let e : pairs x.q (length R) ≡ pairs x.q (length (c ++ s)) =
        cc (length-map (c ++ s) (digits x.q x.m)) in
        omega (arith, bounded free)

-- all words of two factors, over the words alone
module _ (x : Strata) (f : IsField x.q) where
  pub clear_or_not : ClearOrNot x
  clear_or_not base factors =
      sym (sum_by-plus (λ u. cond {A = ℕ} (not (is_unclear x base factors u) && eqb (weight u) 2) 1 0)
      (λ u. cond {A = ℕ} (is_unclear x base factors u && eqb (weight u) 2) 1 0) (points x.q (length factors)))
      ∙ sum_by-ext _ _ (points x.q (length factors))
      (λ u. other-halves (is_unclear x base factors u) (eqb (weight u) 2))
      ∙ pairs-weigh x.q x.m f factors
    where
      other-halves : (u e : Bool) → cond {A = ℕ} (not u && e) 1 0 + cond (u && e) 1 0 ≡ cond e 1 0
      other-halves true true = refl
      other-halves true false = refl
      other-halves false true = refl
      other-halves false false = refl

  -- clear words, sum by sum
  module _ (rows : List ℕ) where
    abbrev F : List (List ℕ)
    F = vectors_of x.q x.m rows

    hF : AreVectors x.q x.m F
    hF = rows-vectors x.q x.m f rows

    abbrev V : List ℕ → Bool
    V v = is_unclear_sum x (base x) F v

    by-sum : (n : ℕ) → n < x.q ^ x.m
        → total x.q x.m f (λ j v. cond (eqb n (number x.q v)) (cond {A = ℕ} (not (V v) && eqb j 2) 1 0) 0) F
        ≡ cond (is_clear_sum x rows (digits x.q x.m n)) 1 0
    by-sum n low =
        let d = digits x.q x.m n in
        let here = number-digits x.q x.m n (omega arith) low in
        let sum = effects-parts x.q x.m f F d in
        cc (
          at-pick x.q x.m f n F hF (λ v. not (V v)) 2,
          told (in_span x.q x.m (base x) d)
              (spread x.q x.m F 1 (number x.q d)) (spread x.q x.m F 2 (number x.q d)),
        )

    pub clear_by_tallies : count_by (λ r. is_clear_sum x rows (digits x.q x.m r)) (range_with_len 0 (x.q ^ x.m))
        + unclear x rows ≡ pairs x.q (length rows)
    unfolding words_in
    clear_by_tallies =
        let ns = range_with_len 0 (x.q ^ x.m) in
        let all = total x.q x.m f (λ j v. cond {A = ℕ} (not (V v) && eqb j 2) 1 0) F in
        let both : unclear x rows + all ≡ pairs x.q (length F) =
        sym (sum_by-plus (λ u. counted x.q x.m f V 2 (weight u) (combination x.q x.m u F))
        (λ u. cond {A = ℕ} (not (V (combination x.q x.m u F)) && eqb (weight u) 2) 1 0) (points x.q (length F)))
        ∙ sum_by-ext _ _ (points x.q (length F)) (λ u. halves (V (combination x.q x.m u F)) (eqb (weight u) 2))
        ∙ pairs-weigh x.q x.m f F in
        let size : pairs x.q (length F) ≡ pairs x.q (length rows) =
        cc (length-map rows (digits x.q x.m)) in
        omega (
          arith,
          by-number x.q x.m f (λ j v. cond {A = ℕ} (not (V v) && eqb j 2) 1 0) F hF
              ∙ sum_by-same
              (λ n. total x.q x.m f (λ j v. cond (eqb n (number x.q v)) (cond {A = ℕ} (not (V v) && eqb j 2) 1 0) 0) F)
              (λ n. cond (is_clear_sum x rows (digits x.q x.m n)) 1 0) 0 (x.q ^ x.m) (λ n low high. by-sum n (omega arith)),
        )

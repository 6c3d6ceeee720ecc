-- Canonical designs are designs.
use Rattle.std.proofs.Common.{ℕ, ◌≡◌, ◌<◌, ◌≤◌, ◌+◌, ◌-◌, Bool, true, false, not, cond, eqb, ◌&&◌, List, [], ◌∷◌}
use Rattle.std.proofs.Common.{◌++◌, length, take, drop, refl, sym, subst, ◌∙◌, ap₂, arith, inl, inr, eq-eqb}
use Rattle.std.proofs.Common.{append-nil, take-append-drop}
use Rattle.std.specs.List.{AllByRecursion, range_with_len}
use Rattle.std.proofs.lemmas.Bool.{cases_eq, cond-true, cond-false, ne_eqb, false_from_ne_true, lt-ltb}
use Rattle.std.proofs.lemmas.List.{length-map, map-append, drop-map}
use Rattle.std.proofs.lemmas.List.Elements.{All-from_recursion}
use Rattle.std.specs.Prelude.{nat_lt}
use Rattle.fx_base.proofs.Lists.{each-append_parts, each-take, each-append, each-drop}
use Rattle.fx_designs.specs.Galois.{IsField, digits}
use Rattle.fx_designs.specs.Vectors.{IsVector, weight, is_zero, combination, vectors_of, plus, scale, zeros}
use Rattle.fx_designs.specs.Spans.{in_span}
use Rattle.fx_designs.specs.Problems.{Dimensions}
use Rattle.fx_designs.specs.Runs.{points}
use Rattle.fx_laws.specs.Changes.{IsFormedTo}
use Rattle.fx_laws.proofs.Codes.{number-digits, digits-vector}
use Rattle.fx_laws.proofs.Space.{AreVectors, combination-vector, scale-vector}
use Rattle.fx_laws.proofs.Tests.{bool_same}
use Rattle.fx_laws.proofs.Ranks.{Spans, spans-none, spans-short, in_span-true, in_span-holds, rank-formed, plus-zero}
use Rattle.fx_laws.proofs.Prefixes.{short-number}
use Rattle.fx_laws.proofs.Reorders.{units_from}
use Rattle.fx_laws.proofs.CanonicalTest.{rows-vectors, take-vectors}
use Rattle.fx_laws.proofs.Sums.{sum_by-same, sum_by-zero}
use Rattle.fx_laws.proofs.Raises.{none-combination}
use Rattle.fx_laws.proofs.Weights.{zeros_from_weight}
use Rattle.fx_laws.proofs.Falling.{formed-units}
use Rattle.fx_strata.proofs.Exchanges.{units-vectors}
use Rattle.fx_strata.specs.Designs.{Strata, base_of, words_of, unclear_of, IsStratified}
use Rattle.fx_strata.specs.Words.{words_in}
use Rattle.fx_strata.specs.Sums.{is_in_base, is_unclear_sum}
use Rattle.fx_strata.specs.Canonical.{dimensions_of, units, base, words, unclear, IsDesign}
use Rattle.fx_strata.specs.Laws.{CanonicalAreDesigns}
use Rattle.fx_strata.proofs.Totals.{total, total-cons, total-turned, codes-split, none-first, total-same, counted}
use Rattle.fx_strata.proofs.Moved.{unscaled, in-base, base-in}
use Rattle.fx_strata.proofs.Runs.{words-are-sums}
use Rattle.fx_strata.proofs.Unclear.{unclear-are-sums}
use Rattle.fx_strata.proofs.Raised.{spans-formed}
use Rattle.fx_strata.proofs.Earlier.{InRange, stage-range, shorts}

module _ (x : Strata) (f : IsField x.q) (rows : List ℕ) (D : IsDesign x rows) where
  abbrev d : Dimensions
  d = dimensions_of x

  some : 0 < x.q
  some = omega arith

  room : x.h ≤ x.m
  room = D.laid.base

  abbrev F : List (List ℕ)
  F = vectors_of x.q x.m rows

  abbrev pub bs : List (List ℕ)
  bs = base_of x (base x) F

  hF : AreVectors x.q x.m F
  hF = rows-vectors x.q x.m f rows

  -- the base rows are unit vectors and others in their span
  formed : IsFormedTo x.m 0 bs x.h
  formed = elim (cases_eq x.w 0) [
    | inl e ↦ subst (λ l. IsFormedTo x.m 0 l x.h)
        (cc (
          append-nil (units_from x.m 0 x.h),
          units-vectors d f 0 x.h (omega (arith, room)),
          cond-true (eqb x.w 0) (base x) (take x.w F) (eq-eqb x.w 0 e),
        ))
        (formed-units x.m 0 x.h x.h [] (omega arith) room tt)
    | inr ne ↦ elim (D.laid.first) [
      | inl e ↦ absurd (ne e)
      | inr st ↦
          let range = (each-append_parts (λ r. InRange d f 0 x.h r) (units x.q 0 x.h) st.others
          (subst (AllByRecursion (λ r. InRange d f 0 x.h r)) st.is (stage-range d f 0 x.h (take x.w rows) st))).1 in
          subst (λ l. IsFormedTo x.m 0 l x.h)
          (cc (
            units-vectors d f 0 x.h (omega (arith, room)),
            map-append (λ r. digits x.q x.m r) (units x.q 0 x.h) st.others,
            st.is,
            take-vectors x.q x.m x.w rows,
            cond-false (eqb x.w 0) (base x) (take x.w F) (ne_eqb x.w 0 ne),
          ))
          (formed-units x.m 0 x.h x.h (vectors_of x.q x.m st.others) (omega arith) room
          (shorts x f room st.others range))
    ]
  ]

  hb : AreVectors x.q x.m bs
  hb = elim (cases_eq x.w 0) [
    | inl e ↦ subst (AreVectors x.q x.m) (sym (cond-true _ (base x) (take x.w F) (eq-eqb x.w 0 e)))
        (rows-vectors x.q x.m f (units x.q 0 x.h))
    | inr ne ↦ subst (AreVectors x.q x.m) (sym (cond-false _ (base x) (take x.w F) (ne_eqb x.w 0 ne)))
        (each-take _ x.w F hF)
  ]

  spans : Spans x.q x.m x.h bs
  spans = spans-formed x.q x.m 0 x.h f [] bs hb (spans-none x.q x.m f) formed

  same-span : (v : List ℕ) → IsVector x.q x.m v → in_span x.q x.m bs v ≡ in_span x.q x.m (base x) v
  same-span v hv = bool_same _ _
      (λ e. base-in x f room v hv
      (spans-short x.q x.m f x.h bs v spans (in_span-true x.q x.m f bs v hb hv e)))
      (λ e. in_span-holds x.q x.m f bs v (spans.all v hv (in-base x f room v hv e)))

  -- a row that is not in the base makes no confounded word alone
  abbrev g : ℕ → List ℕ → ℕ
  g = counted x.q x.m f (is_in_base x (base x)) 1

  IsOut : List ℕ → Type 0
  IsOut y = (c : ℕ) → 0 < c → c < x.q → in_span x.q x.m (base x) (scale x.q c y) ≡ false

  with-code : (y : List ℕ) (zs : List (List ℕ)) → IsVector x.q x.m y → AreVectors x.q x.m zs → IsOut y → (c : ℕ)
      → 1 ≤ c → c < x.q
      → total x.q x.m f (λ j v. g (cond {A = ℕ} (nat_lt 0 c) 1 0 + j) (plus x.q (scale x.q c y) v)) zs ≡ 0
  unfolding IsOut
  with-code y zs hy hz out c pos low =
      total-same x.q x.m f (λ j v. 0) (λ j v. g (cond {A = ℕ} (nat_lt 0 c) 1 0 + j) (plus x.q (scale x.q c y) v)) zs zs
      refl
      (λ u hu.
      let w = combination x.q x.m u zs in
      let bit : cond {A = ℕ} (nat_lt 0 c) 1 0 ≡ 1 = cc (lt-ltb 0 c pos) in
      elim (cases_eq (weight u) 0) [
        | inl e ↦
            let none : w ≡ zeros x.m =
            cc (zeros_from_weight u _ hu.len e, none-combination x.q x.m f (length zs) zs hz) in
            let is : plus x.q (scale x.q c y) w ≡ scale x.q c y =
            cc (plus-zero x.q x.m f _ (scale-vector x.q x.m f c y hy)) in
            cc (
              out c pos low,
              nothing (not (is_zero (scale x.q c y)))
                  (eqb (cond {A = ℕ} (nat_lt 0 c) 1 0 + weight u) 1),
            )
        | inr ne ↦
            cc (
              ne_eqb (cond {A = ℕ} (nat_lt 0 c) 1 0 + weight u) 1 (λ e. omega arith),
              never (is_in_base x (base x) (plus x.q (scale x.q c y) w)),
            )
      ])
      ∙ sum_by-zero (points x.q (length zs))
    where
      nothing : (a b : Bool) → cond {A = ℕ} ((a && false) && b) 1 0 ≡ 0
      nothing true b = refl
      nothing false b = refl

      never : (a : Bool) → cond {A = ℕ} (a && false) 1 0 ≡ 0
      never true = refl
      never false = refl

  one-more : (y : List ℕ) (zs : List (List ℕ)) → IsVector x.q x.m y → AreVectors x.q x.m zs → IsOut y
      → total x.q x.m f g (y ∷ zs) ≡ total x.q x.m f g zs
  one-more y zs hy hz out =
      total-cons x.q x.m f g y zs
      ∙ codes-split x.q x.m f
      (λ c. total x.q x.m f (λ j v. g (cond {A = ℕ} (nat_lt 0 c) 1 0 + j) (plus x.q (scale x.q c y) v)) zs)
      ∙ ap₂ (λ a b. a + b) (none-first x.q x.m f g y zs hy hz)
      (sum_by-same _ (λ c. 0) 1 (x.q - 1)
      (λ c low high. with-code y zs hy hz out c low (omega arith))
      ∙ sum_by-zero (range_with_len 1 (x.q - 1)))
      ∙ (let e : total x.q x.m f g zs + 0 ≡ total x.q x.m f g zs = omega arith in e)

  all-more : (ys zs : List (List ℕ)) → AreVectors x.q x.m ys → AreVectors x.q x.m zs
      → AllByRecursion (λ y. IsOut y) ys → total x.q x.m f g (ys ++ zs) ≡ total x.q x.m f g zs
  all-more [] zs hy hz out = refl
  all-more (y ∷ ys) zs hy hz out =
      one-more y _ hy.0 (each-append _ ys zs hy.1 hz) out.0
      ∙ all-more ys zs hy.1 hz out.1

  others-out : (rs : List ℕ) → AllByRecursion (λ r. InRange d f x.h (x.m - x.h) r) rs
      → AllByRecursion (λ y. IsOut y) (vectors_of x.q x.m rs)
  unfolding IsOut
  others-out [] l = tt
  others-out (r ∷ rs) l =
      let v = digits x.q x.m r in
      let hv = digits-vector x.q x.m r some in
      let top =
      rw (let e : x.h + (x.m - x.h) ≡ x.m = omega (arith, room) in e) at l.0.high in
      let low = l.0.low in (
        λ c pos small. false_from_ne_true _
            (λ t. omega (
              arith,
              number-digits x.q x.m r some top,
              short-number x.q x.m x.h f v hv
                  (unscaled x f room c v pos small hv
                  (in-base x f room _ (scale-vector x.q x.m f c v hv) t)),
            )),
        others-out rs l.1,
      )

  none-confounded : words x rows true 1 ≡ 0
  unfolding words_in
  none-confounded =
      let W = take x.w F in
      let Y = drop x.w F in
      let hW = each-take _ x.w F hF in
      let hY = each-drop _ x.w F hF in
      let out : AllByRecursion (λ y. IsOut y) Y =
      subst (AllByRecursion (λ y. IsOut y)) (sym (drop-map (digits x.q x.m) x.w rows))
      (others-out _ (stage-range d f x.h _ _ D.laid.second)) in
      let same : total x.q x.m f g F ≡ total x.q x.m f g W =
      cc (take-append-drop x.w F, total-turned x.q x.m f g W Y, all-more Y W hY hW out) in
      omega arith

  count : length F ≡ x.w + x.n
  count = cc (length-map rows (digits x.q x.m))

  same-words : (zs : List (List ℕ)) → AreVectors x.q x.m zs → (k : ℕ)
      → words_in x.q x.m (is_in_base x bs) zs k ≡ words_in x.q x.m (is_in_base x (base x)) zs k
  unfolding words_in
  same-words zs hz k = total-same x.q x.m f (counted x.q x.m f (is_in_base x (base x)) k)
      (counted x.q x.m f (is_in_base x bs) k) zs zs refl
      (λ u hu. cc (same-span (combination x.q x.m u zs) (combination-vector x.q x.m f u zs hz)))

  pub same : (b : Bool) (k : ℕ) → words_of x bs F b k ≡ words x rows b k
  same false k = words-are-sums x f bs F hb hF (omega (arith, count)) false k
  same true k = cc (
    words-are-sums x f bs F hb hF (omega (arith, count)) true k,
    same-words F hF k,
    same-words _ (each-take _ x.w F hF) k,
  )

  pub same-unclear : unclear_of x bs F ≡ unclear x rows
  unfolding words_in
  same-unclear = unclear-are-sums x f bs F hb hF
      ∙ total-same x.q x.m f (counted x.q x.m f (is_unclear_sum x (base x) F) 2)
      (counted x.q x.m f (is_unclear_sum x bs F) 2) F F refl
      (λ u hu. cc (same-span _ (combination-vector x.q x.m f u F hF)))

  stratified : IsStratified x (base x) F
  stratified = record {
    factor_count = count;
    block_rows = All-from_recursion _ _ (rows-vectors x.q x.m f (units x.q 0 x.h));
    factor_rows = All-from_recursion _ F hF;
    base =
        (omega (arith, rank-formed x.q x.m f 0 x.h [] bs hb (spans-none x.q x.m f) formed));
    none_of_one = cc (same false 1);
    none_of_two = cc (same false 2);
    none_confounded = same true 1 ∙ none-confounded;
  }

pub canonical_are_designs : (x : Strata) (f : IsField x.q) → CanonicalAreDesigns x
canonical_are_designs x f rows D = stratified x f rows D

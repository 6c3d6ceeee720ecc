-- A change of the run indexes that keeps the base takes a design to a canonical one with as many words of each
-- kind.
use Rattle.std.proofs.Common.{ℕ, ◌≡◌, ◌<◌, ◌≤◌, ◌+◌, ◌-◌, ◌^◌, zero, suc, Bool, true, false, List}
use Rattle.std.proofs.Common.{[], ◌∷◌, ◌++◌, map, length, take, drop, refl, sym, subst, ◌∙◌, ap, ap₂, arith, inl, inr}
use Rattle.std.proofs.Common.{◌⊎◌, eq-eqb, length-append, append-nil, append_assoc}
use Rattle.std.specs.List.{AllByRecursion}
use Rattle.std.proofs.Math.Seq.{take-append_seam, drop-append_seam}
use Rattle.std.proofs.Math.Nat.{pow-zero}
use Rattle.std.proofs.lemmas.Bool.{cases_lt, cases_eq, cond-true, cond-false, both_ways, ne_eqb}
use Rattle.std.proofs.lemmas.List.{length-map, map-append}
use Rattle.std.specs.Prelude.{nat_lt, ◌||◌}
use Rattle.fx_base.proofs.Lists.{each-append}
use Rattle.fx_designs.specs.Galois.{inv, IsField, number, digits}
use Rattle.fx_designs.specs.Vectors.{IsVector, scale, zeros, is_zero, combination, vectors_of}
use Rattle.fx_designs.specs.Spans.{in_span}
use Rattle.fx_designs.specs.Problems.{Dimensions}
use Rattle.fx_laws.specs.Changes.{IsChange, unit, IsShort}
use Rattle.fx_laws.specs.Scalings.{scaled}
use Rattle.fx_laws.specs.Reorders.{swapped, reordered}
use Rattle.fx_laws.proofs.Codes.{number-zeros, number-below}
use Rattle.fx_laws.proofs.Space.{AreVectors, zeros-vector, scale-vector, combination-vector}
use Rattle.fx_laws.proofs.Ranks.{Spans, spans-none, spans-new, spans-short, short-scale, in_span-true, in_span-holds}
use Rattle.fx_laws.proofs.Ranks.{map-vectors, number-same}
use Rattle.fx_laws.proofs.Prefixes.{short-number, number-short}
use Rattle.fx_laws.proofs.Reorders.{units_from, length-swapped}
use Rattle.fx_laws.proofs.Forms.{normal_factor, factors-scalars, each_normal, scale-one}
use Rattle.fx_laws.proofs.Scalings.{scale-scale, scaled-length, scaled-vectors}
use Rattle.fx_laws.proofs.CanonicalTest.{take-vectors}
use Rattle.fx_reduction.proofs.Numbers.{back}
use Rattle.fx_strata.proofs.Lists.{IsMember}
use Rattle.fx_laws.proofs.Falling.{free-nonzero}
use Rattle.fx_strata.proofs.Exchanges.{units-vectors, reordered-map}
use Rattle.fx_strata.specs.Designs.{Strata}
use Rattle.fx_strata.specs.Words.{words_in}
use Rattle.fx_strata.specs.Sums.{is_in_base, is_unclear_sum, unclear_sums, sums_of}
use Rattle.fx_strata.specs.Canonical.{dimensions_of, base, words, unclear, IsStage, IsLaid, IsDesign}
use Rattle.fx_strata.specs.Images.{in_order, first_in_order, second_in_order}
use Rattle.fx_strata.proofs.Totals.{total, total-same, total-changed, total-scaled, total-reordered, AreAlike}
use Rattle.fx_strata.proofs.Totals.{alike-both, counted}
use Rattle.fx_strata.proofs.Free.{IsFree, word-free, free-front, free-back}
use Rattle.fx_strata.proofs.Stages.{InStage, Sorted, sorted}
use Rattle.fx_strata.proofs.Unclear.{near, effects-total, effects-kept, zero-changed}

-- the unit vectors from one on, with those before it, span all that is short
spans-units : (q m k j : ℕ) (f : IsField q) (bs : List (List ℕ)) → k + j ≤ m → Spans q m k bs
    → Spans q m (k + j) (bs ++ units_from m k j)
spans-units q m k zero f bs room h =
    rw (← (let e : k ≡ k + 0 = omega arith in e)) (subst (Spans q m k) (sym (append-nil bs)) h)
spans-units q m k (suc j) f bs room h =
    rw (← (let e : suc k + j ≡ k + suc j = omega arith in e))
    (subst (Spans q m (suc k + j)) (append_assoc bs (unit m k ∷ []) (units_from m (suc k) j))
    (spans-units q m (suc k) j f (bs ++ unit m k ∷ []) (omega arith) (spans-new q m f k bs (omega arith) h)))

length-reordered : {X : Type 0} (ks : List ℕ) (xs : List X) → length (reordered ks xs) ≡ length xs
length-reordered [] xs = refl
length-reordered (k ∷ ks) xs = length-reordered ks (swapped k xs) ∙ length-swapped k xs

module _ (x : Strata) (f : IsField x.q) (room : x.h ≤ x.m) where
  abbrev pub d : Dimensions
  d = dimensions_of x

  fits : x.h + (x.m - x.h) ≤ x.m
  fits = omega arith

  small : 0 + x.h ≤ x.m
  small = omega arith

  pub base-spans : Spans x.q x.m x.h (base x)
  base-spans =
      subst (Spans x.q x.m x.h) (sym (units-vectors d f 0 x.h (omega arith)))
      (rw (let e : 0 + x.h ≡ x.h = omega arith in e) at
      (spans-units x.q x.m 0 x.h f [] (omega arith) (spans-none x.q x.m f)))

  pub in-base : (v : List ℕ) → IsVector x.q x.m v → in_span x.q x.m (base x) v ≡ true → IsShort x.h v
  in-base v hv e =
      spans-short x.q x.m f x.h _ v base-spans (in_span-true x.q x.m f _ v base-spans.vectors hv e)

  pub base-in : (v : List ℕ) → IsVector x.q x.m v → IsShort x.h v → in_span x.q x.m (base x) v ≡ true
  base-in v hv s = in_span-holds x.q x.m f _ v (base-spans.all v hv s)

  -- what is scaled is short where it was
  pub unscaled : (c : ℕ) (v : List ℕ) → 0 < c → c < x.q → IsVector x.q x.m v → IsShort x.h (scale x.q c v)
      → IsShort x.h v
  unscaled c v pos low hv s =
      subst (IsShort x.h)
      (cc (scale-scale x.q f (inv x.q c) c v, f.mul_inv c pos low, scale-one x.q x.m f v hv))
      (short-scale x.q x.h (inv x.q c) f _ s)

  module _ (by : List ℕ → List ℕ) (change : IsChange x.q x.m by) where
    abbrev pub normed : List (List ℕ) → List (List ℕ)
    normed zs = scaled x.q (map (normal_factor x.q x.m f) (map by zs)) (map by zs)

    -- the numbers of the changed rows, each as a normal one
    abbrev pub nums : List (List ℕ) → List ℕ
    nums zs = map (number x.q) (normed zs)

    changed-vectors : (zs : List (List ℕ)) → AreVectors x.q x.m zs → AreVectors x.q x.m (map by zs)
    changed-vectors zs hz = map-vectors x.q x.m f by change zs hz

    normed-vectors : (zs : List (List ℕ)) → AreVectors x.q x.m zs → AreVectors x.q x.m (normed zs)
    normed-vectors zs hz = scaled-vectors x.q f x.m _ _
        (changed-vectors zs hz)

    alike-normed : (zs : List (List ℕ)) → AreVectors x.q x.m zs → AreAlike x.q x.m f (normed zs) (map by zs)
    alike-normed zs hz g = total-scaled x.q x.m f g _ _
        (factors-scalars x.q x.m f _ (changed-vectors zs hz))
        (length-map (map by zs) (normal_factor x.q x.m f))

    -- zero is kept
    zero-kept : (v : List ℕ) → IsVector x.q x.m v → is_zero (by v) ≡ is_zero v
    zero-kept v hv = zero-changed x.q x.m f by change v hv

    free-changed : (zs : List (List ℕ)) → AreVectors x.q x.m zs → IsFree x.q x.m f zs → IsFree x.q x.m f (normed zs)
    free-changed zs hz free = record {
      one = cc (at 1);
      two = cc (at 2);
    }
      where
        at : (k : ℕ) → total x.q x.m f (counted x.q x.m f is_zero k) (normed zs)
            ≡ total x.q x.m f (counted x.q x.m f is_zero k) zs
        at k =
            cc (
              alike-normed zs hz (counted x.q x.m f is_zero k),
              total-changed x.q x.m f (counted x.q x.m f is_zero k)
                  by change zs hz,
              total-same x.q x.m f (counted x.q x.m f is_zero k)
                  (λ j v. counted x.q x.m f is_zero k j (by v)) zs zs
                  refl
                  (λ u hu. cc (zero-kept _ (combination-vector x.q x.m f u zs hz))),
            )

    -- rows put in order
    module _ (from len : ℕ) (fits : from + len ≤ x.m) (zs : List (List ℕ)) (hz : AreVectors x.q x.m zs)
        (s : Sorted d f from len fits (nums zs)) where
      ordered : vectors_of x.q x.m (in_order d from len (nums zs)) ≡ reordered s.swaps (normed zs)
      ordered =
          cc (
            s.is,
            reordered-map (digits x.q x.m) s.swaps (nums zs),
            back x.q x.m f _ (normed-vectors zs hz),
          )

      alike-ordered : AreAlike x.q x.m f (vectors_of x.q x.m (in_order d from len (nums zs))) (map by zs)
      alike-ordered g =
          cc (ordered, total-reordered x.q x.m f g s.swaps (normed zs), alike-normed zs hz g)

      ordered-length : length (in_order d from len (nums zs)) ≡ length zs
      ordered-length =
          cc (
            length-reordered s.swaps (nums zs),
            length-map (normed zs) (number x.q),
            scaled-length x.q f _ _
                (length-map (map by zs) (normal_factor x.q x.m f)),
            length-map zs by,
          )

    -- a base that the change takes to the first h unit vectors
    module _ (bs : List (List ℕ))
        (keeps : (v : List ℕ) → IsVector x.q x.m v → in_span x.q x.m (base x) (by v) ≡ in_span x.q x.m bs v) where
      high-stage : (zs : List (List ℕ)) → AreVectors x.q x.m zs
          → AllByRecursion (λ v. in_span x.q x.m bs v ≡ false) zs
          → AllByRecursion (λ r. InStage d f x.h (x.m - x.h) fits r) (nums zs)
      high-stage [] hz out = tt
      high-stage (z ∷ zs) hz out =
          let v = by z in
          let hv = change.vector z hz.0 in
          let c = normal_factor x.q x.m f v in
          let code = (factors-scalars x.q x.m f (v ∷ []) (hv, tt)).0 in
          let hs = scale-vector x.q x.m f c v hv in
          let top = number-below x.q x.m _ hs in (
            record {
              low = elim (cases_lt (number x.q (scale x.q c v)) (x.q ^ x.h)) [
                | inr high ↦ high
                | inl less ↦ absurd (both_ways _ (keeps z hz.0 ∙ out.0)
                    (base-in v hv (unscaled c v code.0 code.1 hv
                    (number-short x.q x.m x.h f _ hs less))))
              ];
              high = rw (let e : x.m ≡ x.h + (x.m - x.h) = omega arith in e) at top;
            },
            high-stage zs hz.1 out.1,
          )

      low-stage : (zs : List (List ℕ)) → AreVectors x.q x.m zs
          → AllByRecursion (λ v. in_span x.q x.m bs v ≡ true) zs
          → AllByRecursion (λ v. v ≡ zeros x.m → ⊥) (normed zs)
          → AllByRecursion (λ r. InStage d f 0 x.h small r) (nums zs)
      low-stage [] hz inside nonzero = tt
      low-stage (z ∷ zs) hz inside nonzero =
          let v = by z in
          let hv = change.vector z hz.0 in
          let c = normal_factor x.q x.m f v in
          let w = scale x.q c v in
          let hs = scale-vector x.q x.m f c v hv in
          let short =
          short-scale x.q x.h c f v (in-base v hv (cc (keeps z hz.0))) in
          let pos : number x.q w ≡ 0 → ⊥ = λ e. nonzero.0
          (number-same x.q x.m f w _ hs (zeros-vector x.q x.m f) (e ∙ sym (number-zeros x.q x.m))) in (
            record {
              low = (omega (arith, pow-zero x.q));
              high = rw (let e : x.h ≡ 0 + x.h = omega arith in e) at (short-number x.q x.m x.h f w hs short);
            },
            low-stage zs hz.1 inside.1 nonzero.1,
          )

      confounded-kept : (v : List ℕ) → IsVector x.q x.m v → is_in_base x (base x) (by v) ≡ is_in_base x bs v
      confounded-kept v hv = cc (zero-kept v hv, keeps v hv)

      -- the rows of a design
      module _ (xs ys : List (List ℕ)) (lx : length xs ≡ x.w) (ly : length ys ≡ x.n) (hx : AreVectors x.q x.m xs)
          (hy : AreVectors x.q x.m ys) (free : IsFree x.q x.m f (xs ++ ys))
          (inside : (x.w ≡ 0) ⊎ (AllByRecursion (λ v. in_span x.q x.m bs v ≡ true) xs
          × ((i : ℕ) → i < x.h → IsMember (x.q ^ i) (nums xs))))
          (outside : AllByRecursion (λ v. in_span x.q x.m bs v ≡ false) ys)
          (come : (i : ℕ) → x.h ≤ i → i < x.m → IsMember (x.q ^ i) (nums ys)) where
        second-sorted : Sorted d f x.h (x.m - x.h) fits (nums ys)
        second-sorted =
            sorted d f x.h _ fits _ (normed-vectors ys hy)
            (free-changed ys hy (free-back x.q x.m f xs ys hx hy free))
            (each_normal x.q x.m f _ (changed-vectors ys hy)) (high-stage ys hy outside)
            (λ i low high. come i low (omega arith))

        abbrev first : List ℕ
        first = first_in_order x (nums xs)

        abbrev second : List ℕ
        second = second_in_order x (nums ys)

        record First : Type 0 where
          alike : AreAlike x.q x.m f (vectors_of x.q x.m first) (map by xs)
          len : length first ≡ x.w
          stage : (x.w ≡ 0) ⊎ IsStage d 0 x.h first

        empty : (zs : List (List ℕ)) → length zs ≡ 0 → zs ≡ []
        empty [] e = refl
        empty (z ∷ zs) e = absurd (omega arith)

        first-sorted : First
        first-sorted = elim (cases_eq x.w 0) [
          | inl e ↦
              let none = empty xs (cc) in
              let is =
              cond-true _ [] (in_order d 0 x.h (nums xs)) (eq-eqb x.w 0 e) in
              record {
                alike = λ g. cc none;
                len = cc;
                stage = inl e;
              }
          | inr ne ↦ elim inside [
            | inl e ↦ absurd (ne e)
            | inr p ↦
                let is =
                cond-false _ [] (in_order d 0 x.h (nums xs)) (ne_eqb x.w 0 ne) in
                let free' =
                free-changed xs hx (free-front x.q x.m f xs ys hx hy free) in
                let s =
                sorted d f 0 x.h small _ (normed-vectors xs hx) free'
                (each_normal x.q x.m f _ (changed-vectors xs hx))
                (low-stage xs hx p.0
                (free-nonzero x.q x.m f _ (normed-vectors xs hx) (word-free x.q x.m f _ free')))
                (λ i low high. p.1 i (omega arith)) in
                record {
                  alike = λ g. cc (alike-ordered 0 x.h small xs hx s g);
                  len = cc (ordered-length 0 x.h small xs hx s);
                  stage = inr (record { others = _; is = is; later = s.later });
                }
          ]
        ]

        alike-all : (g : ℕ → List ℕ → ℕ)
            → total x.q x.m f g (vectors_of x.q x.m (first ++ second)) ≡ total x.q x.m f (λ j v. g j (by v)) (xs ++ ys)
        alike-all g =
            cc (
              map-append (digits x.q x.m) first second,
              alike-both x.q x.m f _ _ _ _
                  first-sorted.alike (alike-ordered x.h (x.m - x.h) fits ys hy second-sorted) g,
              map-append by xs ys,
              total-changed x.q x.m f g by change _ (each-append _ xs ys hx hy),
            )

        second-length : length second ≡ x.n
        second-length = cc (ordered-length x.h (x.m - x.h) fits ys hy second-sorted)

        front : take x.w (first ++ second) ≡ first
        front = rw first-sorted.len at (take-append_seam first second)

        behind : drop x.w (first ++ second) ≡ second
        behind = rw first-sorted.len at (drop-append_seam first second)

        laid : IsLaid x (first ++ second)
        laid = record {
          base = room;
          len = cc (length-append first second, first-sorted.len, second-length);
          first = elim (first-sorted.stage) [
            | inl e ↦ inl e
            | inr s ↦ inr (subst (IsStage d 0 x.h) (sym front) s)
          ];
          second = subst (IsStage d x.h (x.m - x.h)) (sym behind)
              (record { others = _; is = refl; later = second-sorted.later });
        }

        -- a test of sums that the change takes to another
        module _ (T S : List ℕ → Bool) (same : (v : List ℕ) → IsVector x.q x.m v → T (by v) ≡ S v) (k : ℕ) where
          counted-kept : (zs : List (List ℕ)) → AreVectors x.q x.m zs
              → total x.q x.m f (λ j v. counted x.q x.m f T k j (by v)) zs ≡ total x.q x.m f (counted x.q x.m f S k) zs
          counted-kept zs hz =
              total-same x.q x.m f (counted x.q x.m f S k) (λ j v. counted x.q x.m f T k j (by v)) zs zs refl
              (λ u hu. cc (same (combination x.q x.m u zs) (combination-vector x.q x.m f u zs hz)))

          all-kept : words_in x.q x.m T (vectors_of x.q x.m (first ++ second)) k ≡ words_in x.q x.m S (xs ++ ys) k
          unfolding words_in
          all-kept = alike-all (counted x.q x.m f T k)
              ∙ counted-kept _ (each-append _ xs ys hx hy)

          front-kept : words_in x.q x.m T (take x.w (vectors_of x.q x.m (first ++ second))) k
              ≡ words_in x.q x.m S (take x.w (xs ++ ys)) k
          unfolding words_in
          front-kept =
              ap (total x.q x.m f (counted x.q x.m f T k))
              (cc (take-vectors x.q x.m x.w (first ++ second), front))
              ∙ first-sorted.alike (counted x.q x.m f T k)
              ∙ total-changed x.q x.m f (counted x.q x.m f T k) by change xs hx
              ∙ counted-kept xs hx
              ∙ ap (total x.q x.m f (counted x.q x.m f S k))
              (sym (rw lx at (take-append_seam xs ys)))

        pub words-kept : (b : Bool) (k : ℕ) → words x (first ++ second) b k ≡ sums_of x bs (xs ++ ys) b k
        words-kept false k = all-kept is_zero is_zero zero-kept k
        words-kept true k = cc (
          all-kept (is_in_base x (base x)) (is_in_base x bs) confounded-kept k,
          front-kept (is_in_base x (base x)) (is_in_base x bs) confounded-kept k,
        )

        pub unclear-kept : unclear x (first ++ second) ≡ unclear_sums x bs (xs ++ ys)
        unclear-kept =
            let rows = vectors_of x.q x.m (first ++ second) in
            all-kept (is_unclear_sum x (base x) rows) (is_unclear_sum x bs (xs ++ ys))
            (λ v hv. ap₂ (λ i n. i || nat_lt 1 n) (keeps v hv)
            (effects-total x.q x.m f rows (by v) ∙ alike-all (near x.q x.m f (by v))
            ∙ effects-kept x.q x.m f by change v hv _ (each-append _ xs ys hx hy))) 2

        none : (k : ℕ) → total x.q x.m f (counted x.q x.m f is_zero k) (xs ++ ys) ≡ 0
            → sums_of x bs (xs ++ ys) false k ≡ 0
        unfolding words_in
        none k e = e

        pub in-order-design : IsDesign x (first ++ second)
        in-order-design = record {
          laid = laid;
          none_of_one = words-kept false 1 ∙ none 1 free.one;
          none_of_two = words-kept false 2 ∙ none 2 free.two;
        }

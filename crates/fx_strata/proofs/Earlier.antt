-- Each design below a prefix with an earlier image has one before it with as many words of each kind.
use Rattle.std.proofs.Common.{ℕ, ◌≡◌, ◌<◌, ◌≤◌, ◌+◌, ◌-◌, ◌^◌, zero, suc, Bool, true, false, not, eqb, ◌&&◌, List}
use Rattle.std.proofs.Common.{[], ◌∷◌, ◌++◌, map, length, take, drop, refl, sym, subst, arith, inl, inr}
use Rattle.std.proofs.Common.{◌⊎◌}
use Rattle.std.proofs.Common.{eqb-true, eq-eqb, append-nil, take-append-drop, length-append}
use Rattle.std.specs.Prelude.{nat_le}
use Rattle.std.specs.List.{AllByRecursion, filter}
use Rattle.std.proofs.Math.Nat.{pow-le-pow_right}
use Rattle.std.proofs.lemmas.Bool.{cases_Bool, cases_eq, cond-true, cond-false, and_parts, ne_eqb, false_from_ne_true}
use Rattle.std.proofs.lemmas.Bool.Decides.{nat_tests}
use Rattle.std.proofs.lemmas.List.{map-append, length-map, length-take, take-append-le}
use Rattle.std.proofs.lemmas.List.Elements.{filter-append}
use Rattle.fx_base.proofs.Lists.{each-append, each-append_parts, each-map, each-weaker}
use Rattle.fx_designs.specs.Galois.{IsField, digits}
use Rattle.fx_designs.specs.Vectors.{IsVector, vectors_of, is_normal}
use Rattle.fx_designs.specs.Spans.{in_span}
use Rattle.fx_designs.specs.Problems.{Dimensions}
use Rattle.fx_designs.specs.Canonical.{is_unit}
use Rattle.fx_designs.specs.Patterns.{is_less}
use Rattle.fx_designs.specs.Answers.{falling}
use Rattle.fx_laws.specs.Changes.{IsChange, IsShort}
use Rattle.fx_laws.proofs.Codes.{number-digits, digits-vector}
use Rattle.fx_laws.proofs.Prefixes.{number-short, short-number}
use Rattle.fx_laws.proofs.CanonicalTest.{rows-vectors}
use Rattle.fx_base.proofs.Ranges.{each-range}
use Rattle.fx_strata.specs.Changes.{falling_order, moved}
use Rattle.fx_strata.proofs.Lists.{IsUnder, under-same, under-order, stands_before, IsMember}
use Rattle.fx_strata.proofs.Exchanges.{member-left, numbers}
use Rattle.fx_strata.specs.Designs.{Strata}
use Rattle.fx_strata.specs.Words.{words_in}
use Rattle.fx_strata.specs.Canonical.{dimensions_of, units, base, words, unclear, AreLater, IsStage, IsDesign}
use Rattle.fx_strata.specs.Images.{in_order, first_in_order, second_in_order, moved_rows, image, first_known}
use Rattle.fx_strata.specs.Images.{second_known, brings, is_exchange, has_earlier_image}
use Rattle.fx_strata.specs.Laws.{IsEarlier, EarlierForEach}
use Rattle.fx_strata.proofs.Free.{IsFree}
use Rattle.fx_strata.proofs.Stages.{pow-less}
use Rattle.fx_strata.proofs.Moved.{nums, in-base, base-in, in-order-design, words-kept, unclear-kept}
use Rattle.fx_strata.proofs.Keeping.{by, brought, is-change, keeps}

-- the first and the last of more rows
pub front-more : (w : ℕ) (c s : List ℕ) → (r : List ℕ) × (take w (c ++ s) ≡ take w c ++ r)
front-more zero c s = ([], refl)
front-more (suc w) [] s = (take (suc w) s, refl)
front-more (suc w) (r ∷ c) s = (let e = front-more w c s in (e.0, cc e.1))

pub behind-more : (w : ℕ) (c s : List ℕ) → (r : List ℕ) × (drop w (c ++ s) ≡ drop w c ++ r)
behind-more zero c s = (s, refl)
behind-more (suc w) [] s = (drop (suc w) s, refl)
behind-more (suc w) (r ∷ c) s = behind-more w c s

under-more : (xs ys zs : List ℕ) → IsUnder xs ys → IsUnder xs (ys ++ zs)
under-more [] ys zs h = tt
under-more (x ∷ xs) [] zs h = absurd h
under-more (x ∷ xs) (y ∷ ys) zs h = (h.0, under-more xs ys zs h.1)

member-split : (x : ℕ) (xs ys : List ℕ) → IsMember x (xs ++ ys) → IsMember x xs ⊎ IsMember x ys
member-split x [] ys h = inr h
member-split x (y ∷ xs) ys (inl e) = inl (inl e)
member-split x (y ∷ xs) ys (inr h) = elim (member-split x xs ys h) [ inl a ↦ inl (inr a) | inr b ↦ inr b ]

-- what comes from two parts of some rows comes from them
from-parts : (g : ℕ → ℕ) (y : ℕ) (as' os rest more rows : List ℕ) → rows ≡ as' ++ rest → rows ≡ os ++ more
    → IsMember y (map g (as' ++ os)) → IsMember y (map g rows)
from-parts g y as' os rest more rows e e' h =
    elim (member-split y (map g as') (map g os) (subst (IsMember y) (map-append g as' os) h)) [
      | inl a ↦ subst (IsMember y) (sym (cc (map-append g as' rest)))
          (member-left y _ (map g rest) a)
      | inr b ↦ subst (IsMember y) (sym (cc (map-append g os more)))
          (member-left y _ (map g more) b)
    ]

falling-below : (n : ℕ) → AllByRecursion (λ r. r < n) (falling n)
falling-below zero = tt
falling-below (suc n) = (
  omega arith,
  each-weaker _ (λ r. r < suc n) _ (λ r h. omega arith) (falling-below n),
)

module _ (d : Dimensions) (f : IsField d.q) where
  -- the rows of a stage are in its range
  pub record InRange (from len r : ℕ) : Type 0 where
    pub low : d.q ^ from ≤ r
    pub high : r < d.q ^ (from + len)

  later-range : (from len bound : ℕ) (rows : List ℕ) → bound ≤ d.q ^ (from + len) → AreLater d from bound rows
      → AllByRecursion (λ r. InRange from len r) rows
  later-range from len bound [] h l = tt
  later-range from len bound (r ∷ rows) h l =
      let p = and_parts (is_normal (digits d.q d.m r)) (not (is_unit d r) && nat_le (d.q ^ from) r) l.0 in
      let under = l.1 in (
        record {
          low = (grind (arith, nat_tests, (and_parts (not (is_unit d r)) (nat_le (d.q ^ from) r) p.1).1));
          high = omega arith;
        },
        later-range from len r rows (omega arith) l.2,
      )

  pub stage-range : (from len : ℕ) (rows : List ℕ) → IsStage d from len rows
      → AllByRecursion (λ r. InRange from len r) rows
  stage-range from len rows s =
      subst (AllByRecursion (λ r. InRange from len r)) (sym s.is)
      (each-append _ _ s.others
      (each-map _ _ _
      (each-range (λ i. InRange from len (d.q ^ i)) from len (λ i low high. record {
        low = pow-le-pow_right (omega arith) low;
        high = pow-less d f i _ high;
      })))
      (later-range from len (d.q ^ (from + len)) s.others (omega arith) s.later))

-- rows below q^h are short
pub shorts : (x : Strata) (f : IsField x.q) → x.h ≤ x.m → (rs : List ℕ)
    → AllByRecursion (λ r. InRange (dimensions_of x) f 0 x.h r) rs
    → AllByRecursion (λ v. IsShort x.h v) (vectors_of x.q x.m rs)
shorts x f room [] h = tt
shorts x f room (r ∷ rs) h =
    let some : 0 < x.q = omega arith in
    let below = rw (let e : 0 + x.h ≡ x.h = omega arith in e) at h.0.high in
    let wide = pow-le-pow_right some room in (
      number-short x.q x.m x.h f _ (digits-vector x.q x.m r some)
          (omega (arith, number-digits x.q x.m r some (omega arith))),
      shorts x f room rs h.1,
    )

module _ (x : Strata) (f : IsField x.q) where
  -- a front part put in order is under the whole
  under-in-order : (from len : ℕ) (xs ys : List ℕ)
      → IsUnder (in_order (dimensions_of x) from len xs) (in_order (dimensions_of x) from len (xs ++ ys))
  under-in-order from len xs ys =
      let p : ℕ → Bool = λ r. not (is_unit (dimensions_of x) r) in
      under-same (units x.q from len) (falling_order (filter p xs)) (falling_order (filter p (xs ++ ys)))
      (rw (filter-append p xs ys) (under-order (filter p xs) (filter p ys)))

  under-first : (xs ys : List ℕ) → IsUnder (first_in_order x xs) (first_in_order x (xs ++ ys))
  under-first xs ys = elim (cases_Bool (eqb x.w 0)) [
    | inl t ↦ rw (cond-true _ [] (in_order (dimensions_of x) 0 x.h xs) t) tt
    | inr o ↦ rw (cond-false _ [] (in_order (dimensions_of x) 0 x.h xs) o)
        (subst (IsUnder (in_order (dimensions_of x) 0 x.h xs))
        (sym (cond-false _ [] (in_order (dimensions_of x) 0 x.h (xs ++ ys)) o))
        (under-in-order 0 x.h xs ys))
  ]

  module _ (change c s : List ℕ) where
    abbrev rows : List ℕ
    rows = c ++ s

    -- the image of all rows
    abbrev whole : List ℕ
    whole = first_in_order x (moved_rows x change (take x.w rows))
        ++ second_in_order x (moved_rows x change (drop x.w rows))

    -- the image of the prefix is at no place greater
    under : IsUnder (image x change c) whole
    under =
        let g = moved (dimensions_of x) change in
        let one = front-more x.w c s in
        let two = behind-more x.w c s in
        let first = first_in_order x (map g (take x.w c)) in
        let second = second_in_order x (map g (drop x.w c)) in
        let last = second_in_order x (map g (drop x.w rows)) in
        elim (cases_Bool (nat_le (length c) x.w)) [
          | inl t ↦
              subst (λ l. IsUnder (first ++ l) whole) (sym (cond-true (nat_le (length c) x.w) [] second t))
              (subst (λ l. IsUnder l whole) (sym (append-nil first))
              (under-more first (first_in_order x (map g (take x.w rows))) last
              (subst (λ l. IsUnder first (first_in_order x l))
              (sym (cc (one.1, map-append g (take x.w c) one.0)))
              (under-first (map g (take x.w c)) (map g one.0)))))
          | inr o ↦
              let long : x.w ≤ length c = grind (arith, nat_tests, o) in
              subst (λ l. IsUnder (first ++ l) whole) (sym (cond-false (nat_le (length c) x.w) [] second o))
              (subst (λ l. IsUnder (first ++ second) (first_in_order x (map g l) ++ last))
              (sym (take-append-le x.w c s long))
              (under-same first second last
              (subst (λ l. IsUnder second (second_in_order x l))
              (sym (cc (two.1, map-append g (drop x.w c) two.0)))
              (under-in-order x.h (x.m - x.h) (map g (drop x.w c)) (map g two.0)))))
        ]

module _ (x : Strata) (f : IsField x.q) (c s change : List ℕ) (h : has_earlier_image x change c ≡ true)
    (D : IsDesign x (c ++ s)) where
  abbrev all : List ℕ
  all = c ++ s

  abbrev a : List ℕ
  a = take x.w all

  abbrev b : List ℕ
  b = drop x.w all

  some : 0 < x.q
  some = omega arith

  room : x.h ≤ x.m
  room = D.laid.base

  wide : x.q ^ x.h ≤ x.q ^ x.m
  wide = pow-le-pow_right some room

  abbrev g : ℕ → ℕ
  g = moved (dimensions_of x) change

  abbrev first_test : Bool
  first_test = brings x change 0 x.h (first_known x c)

  abbrev second_test : Bool
  second_test = brings x change x.h (x.m - x.h) (second_known x c)

  h1 : (eqb (length change) x.m ≡ true) × ((is_exchange x change c && is_less c (image x change c)) ≡ true)
  h1 = and_parts _ _ h

  h2 : (is_exchange x change c ≡ true) × (is_less c (image x change c) ≡ true)
  h2 = and_parts _ _ h1.1

  h4 : (first_test ≡ true) × (second_test ≡ true)
  h4 = and_parts first_test second_test h2.0

  count : length change ≡ x.m
  count = eqb-true _ x.m h1.0

  first-comes : (i : ℕ) → i < x.h → IsMember (x.q ^ i) (map g (first_known x c))
  first-comes i low = brought x f room change count 0 x.h _ h4.0 i (omega arith) (omega arith)

  second-comes : (i : ℕ) → x.h ≤ i → i < x.m → IsMember (x.q ^ i) (map g (second_known x c))
  second-comes i low high =
      brought x f room change count x.h _ _ h4.1 i low (omega (arith, room))

  -- rows of the base
  InBase : ℕ → Type 0
  InBase r = r < x.q ^ x.h

  first-range : (x.w ≡ 0) ⊎ AllByRecursion InBase a
  unfolding InBase
  first-range = elim (D.laid.first) [
    | inl e ↦ inl e
    | inr st ↦ inr (each-weaker _ (λ r. r < x.q ^ x.h) a
        (λ r k. rw (let e : 0 + x.h ≡ x.h = omega arith in e) at k.high)
        (stage-range (dimensions_of x) f 0 x.h a st))
  ]

  known-low : AllByRecursion (λ r. r < x.q ^ x.h) (first_known x c)
  unfolding InBase
  known-low = elim (cases_eq x.w 0) [
    | inl e ↦ subst (AllByRecursion (λ r. r < x.q ^ x.h))
        (sym (cond-true _ (falling (x.q ^ x.h)) (units x.q 0 x.h ++ take x.w c) (eq-eqb x.w 0 e)))
        (falling-below (x.q ^ x.h))
    | inr ne ↦ subst (AllByRecursion (λ r. r < x.q ^ x.h))
        (sym (cond-false _ (falling (x.q ^ x.h)) (units x.q 0 x.h ++ take x.w c) (ne_eqb x.w 0 ne)))
        (each-append _ _ (take x.w c)
        (each-map _ _ _
        (each-range (λ i. x.q ^ i < x.q ^ x.h) 0 x.h
        (λ i low high. pow-less (dimensions_of x) f i x.h (omega arith))))
        (elim first-range [
          | inl e ↦ absurd (ne e)
          | inr l ↦ (let e = front-more x.w c s in
              (each-append_parts (λ r. r < x.q ^ x.h) (take x.w c) e.0
              (subst (AllByRecursion (λ r. r < x.q ^ x.h)) e.1 l)).0)
        ]))
  ]

  abbrev move : List ℕ → List ℕ
  move v = by x f room change count v

  turns : IsChange x.q x.m move
  turns = is-change x f room change count _ _ first-comes second-comes

  kept : (v : List ℕ) → IsVector x.q x.m v → in_span x.q x.m (base x) (move v) ≡ in_span x.q x.m (base x) v
  kept = keeps x f room change count _ _ first-comes second-comes known-low

  abbrev xs : List (List ℕ)
  xs = vectors_of x.q x.m a

  abbrev ys : List (List ℕ)
  ys = vectors_of x.q x.m b

  nums-are : (rows : List ℕ) → nums x f room move turns (vectors_of x.q x.m rows) ≡ moved_rows x change rows
  nums-are rows = numbers (dimensions_of x) f change count rows

  base-rows : (rows : List ℕ) → AllByRecursion (λ r. r < x.q ^ x.h) rows
      → AllByRecursion (λ v. in_span x.q x.m (base x) v ≡ true) (vectors_of x.q x.m rows)
  base-rows [] l = tt
  base-rows (r ∷ rows) l =
      let v = digits x.q x.m r in
      let hv = digits-vector x.q x.m r some in (
        base-in x f room v hv
            (number-short x.q x.m x.h f v hv (omega (arith, number-digits x.q x.m r some (omega (arith, wide))))),
        base-rows rows l.1,
      )

  other-rows : (rows : List ℕ) → AllByRecursion (λ r. InRange (dimensions_of x) f x.h (x.m - x.h) r) rows
      → AllByRecursion (λ v. in_span x.q x.m (base x) v ≡ false) (vectors_of x.q x.m rows)
  other-rows [] l = tt
  other-rows (r ∷ rows) l =
      let v = digits x.q x.m r in
      let hv = digits-vector x.q x.m r some in
      let top =
      rw (let e : x.h + (x.m - x.h) ≡ x.m = omega (arith, room) in e) at l.0.high in
      let low = l.0.low in (
        false_from_ne_true _
            (λ t. omega
            (arith, number-digits x.q x.m r some top, short-number x.q x.m x.h f v hv (in-base x f room v hv t))),
        other-rows rows l.1,
      )

  inside : (x.w ≡ 0) ⊎ (AllByRecursion (λ v. in_span x.q x.m (base x) v ≡ true) xs
      × ((i : ℕ) → i < x.h → IsMember (x.q ^ i) (nums x f room move turns xs)))
  unfolding InBase
  inside = elim (cases_eq x.w 0) [
    | inl e ↦ inl e
    | inr ne ↦ elim first-range [
      | inl e ↦ absurd (ne e)
      | inr l ↦ elim (D.laid.first) [
        | inl e ↦ absurd (ne e)
        | inr st ↦ inr (
          base-rows a l,
          λ i low. subst (IsMember (x.q ^ i)) (sym (nums-are a))
              (let e = front-more x.w c s in
              from-parts g (x.q ^ i) _ _ st.others e.0 a st.is e.1
              (rw (cond-false _ (falling (x.q ^ x.h)) (units x.q 0 x.h ++ take x.w c)
              (ne_eqb x.w 0 ne)) at (first-comes i low))),
        )
      ]
    ]
  ]

  come : (i : ℕ) → x.h ≤ i → i < x.m → IsMember (x.q ^ i) (nums x f room move turns ys)
  come i low high = subst (IsMember (x.q ^ i)) (sym (nums-are b))
      (let e = behind-more x.w c s in
      from-parts g _ _ _ D.laid.second.others e.0 b D.laid.second.is e.1
      (second-comes i low high))

  together : xs ++ ys ≡ vectors_of x.q x.m all
  together = cc (map-append (digits x.q x.m) a b, take-append-drop x.w all)

  free : IsFree x.q x.m f (xs ++ ys)
  unfolding words_in
  free = subst (IsFree x.q x.m f) (sym together) (record { one = D.none_of_one; two = D.none_of_two })

  lx : length xs ≡ x.w
  lx = (let e2 = D.laid.len in
      omega (arith, length-map a (digits x.q x.m), length-take x.w all))

  ly : length ys ≡ x.n
  ly =
      let e = length-map b (digits x.q x.m) in
      let e1 = length-map a (digits x.q x.m) in
      let e2 = D.laid.len in
      let e3 : length a + length b ≡ length all = cc (length-append a b, take-append-drop x.w all) in
      let e4 = lx in
      omega arith

  abbrev other : List ℕ
  other = whole x f change c s

  is : first_in_order x (nums x f room move turns xs) ++ second_in_order x (nums x f room move turns ys) ≡ other
  is = cc (nums-are a, nums-are b)

  outside : AllByRecursion (λ v. in_span x.q x.m (base x) v ≡ false) ys
  outside = other-rows b (stage-range (dimensions_of x) f x.h (x.m - x.h) b D.laid.second)

  earlier : IsEarlier x other all
  earlier = record {
    design = subst (IsDesign x) is
        (in-order-design x f room move turns _ kept xs ys lx ly (rows-vectors x.q x.m f a)
        (rows-vectors x.q x.m f b) free inside outside come);
    earlier = stands_before c s _ other h2.1 (under x f change c s);
    words = λ confounded k.
        cc (
          is,
          words-kept x f room move turns _ kept xs ys lx ly (rows-vectors x.q x.m f a)
              (rows-vectors x.q x.m f b) free inside outside come confounded k,
          together,
        );
    unclear =
        cc (
          is,
          unclear-kept x f room move turns _ kept xs ys lx ly (rows-vectors x.q x.m f a)
              (rows-vectors x.q x.m f b) free inside outside come,
          together,
        );
  }

pub earlier_for_each : (x : Strata) (f : IsField x.q) → EarlierForEach x
earlier_for_each x f c s change h D = (other x f c s change h D, earlier x f c s change h D)

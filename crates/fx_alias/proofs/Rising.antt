-- The components of a listing are in order.
use Rattle.std.proofs.Common.{ℕ, zero, suc, ◌≡◌, ◌<◌, ◌≤◌, ◌+◌, ◌*◌, ◌-◌, ◌&&◌, ◌||◌, not, Bool, true, false, cond, ltb}
use Rattle.std.proofs.Common.{eqb, List, [], ◌∷◌, ◌++◌, map, map-id, refl, sym, ◌∙◌, ap, subst, arith, rules}
use Rattle.std.proofs.Math.Nat.{mul-suc, mul-le-mul_left}
use Rattle.std.specs.List.{AllByRecursion, flat_map, range_with_len}
use Rattle.std.proofs.lemmas.Bool.{lt-ltb, ltb-true, eq-eqb}
use Rattle.std.proofs.lemmas.List.Sums.{sum_by-cons}
use Rattle.fx_designs.specs.Galois.{number}
use Rattle.fx_designs.specs.Vectors.{weight}
use Rattle.fx_designs.specs.Components.{supports, codes_before, normal_vectors, components}
use Rattle.fx_alias.specs.ComponentOrder.{is_before, is_first_set, support_of, IsRising}
use Rattle.fx_base.proofs.Lists.{each-all, each-append}
use Rattle.fx_base.proofs.Ranges.{each-range}
use Rattle.fx_components.proofs.Enumerating.{codes-below, flat, mapped}
use Rattle.fx_alias.proofs.Lengths.{all_of, trues}

module _ {X : Type 0} (first : X → X → Bool) where
  -- each of some is before each of others
  abbrev Across : List X → List X → Type 0
  Across xs ys = AllByRecursion (λ x. AllByRecursion (λ y. first x y ≡ true) ys) xs

  none_after : (xs : List X) → Across xs []
  none_after [] = tt
  none_after (x ∷ xs) = (tt, none_after xs)

  across-append : (xs ys zs : List X) → Across xs ys → Across xs zs → Across xs (ys ++ zs)
  across-append [] ys zs h k = tt
  across-append (x ∷ xs) ys zs h k = (each-append _ ys zs h.0 k.0, across-append xs ys zs h.1 k.1)

  rising-append : (xs ys : List X) → IsRising first xs → IsRising first ys → Across xs ys → IsRising first (xs ++ ys)
  rising-append [] ys hx hy h = hy
  rising-append (x ∷ xs) ys hx hy h = (each-append _ xs ys hx.0 h.0, rising-append xs ys hx.1 hy h.1)

  module _ {Y : Type 0} (order : Y → Y → Bool) (Q : Y → Type 0) where
    rising-map : (f : Y → X) → ((y z : Y) → Q y → Q z → order y z ≡ true → first (f y) (f z) ≡ true)
        → (ys : List Y) → AllByRecursion Q ys → IsRising order ys → IsRising first (map f ys)
    rising-map f keeps [] all h = tt
    rising-map f keeps (y ∷ ys) all h = (later ys all.1 h.0, rising-map f keeps ys all.1 h.1)
      where
        later : (zs : List Y) → AllByRecursion Q zs → AllByRecursion (λ z. order y z ≡ true) zs
            → AllByRecursion (λ x. first (f y) x ≡ true) (map f zs)
        later [] known h = tt
        later (z ∷ zs) known h = (keeps y z all.0 known.0 h.0, later zs known.1 h.1)

    rising-flat : (f : Y → List X) → ((y : Y) → Q y → IsRising first (f y))
        → ((y z : Y) → Q y → Q z → order y z ≡ true → Across (f y) (f z))
        → (ys : List Y) → AllByRecursion Q ys → IsRising order ys → IsRising first (flat_map f ys)
    rising-flat f each between [] all h = tt
    rising-flat f each between (y ∷ ys) all h =
        rising-append _ _ (each y all.0) (rising-flat f each between ys all.1 h.1)
        (later ys all.1 h.0)
      where
        later : (zs : List Y) → AllByRecursion Q zs → AllByRecursion (λ z. order y z ≡ true) zs
            → Across (f y) (flat_map f zs)
        later [] known h = none_after _
        later (z ∷ zs) known h =
            across-append _ _ _ (between y z all.0 known.0 h.0) (later zs known.1 h.1)

-- what holds of each of some, and of each of others, puts the ones before the others
across-all : {X : Type 0} (first : X → X → Bool) (P R : X → Type 0) → ((x y : X) → P x → R y → first x y ≡ true)
    → (xs ys : List X) → AllByRecursion P xs → AllByRecursion R ys → Across first xs ys
across-all first P R puts [] ys hx hy = tt
across-all first P R puts (x ∷ xs) ys hx hy = (later ys hy, across-all first P R puts xs ys hx.1 hy)
  where
    later : (zs : List _) → AllByRecursion R zs → AllByRecursion (λ y. first x y ≡ true) zs
    later [] h = tt
    later (z ∷ zs) h = (puts x z hx.0 h.0, later zs h.1)

rising-range : (a n : ℕ) → IsRising ltb (range_with_len a n)
rising-range a zero = tt
rising-range a (suc n) = (above a _ n (omega arith), rising-range (a + 1) n)
  where
    above : (a b n : ℕ) → a < b → AllByRecursion (λ x. ltb a x ≡ true) (range_with_len b n)
    above a b zero h = tt
    above a b (suc n) h = (lt-ltb a b h, above a (b + 1) n (omega arith))

-- sets of equally many factors
rising-sets : (k s : ℕ) → IsRising is_first_set (supports k s)
rising-sets zero zero = (tt, tt)
rising-sets (suc k) zero = tt
rising-sets zero (suc s) =
    rising-map is_first_set is_first_set _ (λ set. false ∷ set) (λ a b ha hb h. h) _
    (each-all (λ x. Unit {0}) (supports zero s) (λ x. tt)) (rising-sets zero s)
rising-sets (suc k) (suc s) =
    rising-append is_first_set _ _
    (rising-map is_first_set is_first_set _ (λ set. true ∷ set) (λ a b ha hb h. h) _
    (each-all (λ x. Unit {0}) (supports k s) (λ x. tt)) (rising-sets k s))
    (rising-map is_first_set is_first_set _ (λ set. false ∷ set) (λ a b ha hb h. h) _
    (each-all (λ x. Unit {0}) (supports (suc k) s) (λ x. tt)) (rising-sets (suc k) s))
    (heads (supports k s) (supports (suc k) s))
  where
    head : (a : List Bool) (bs : List (List Bool))
        → AllByRecursion (λ b. is_first_set (true ∷ a) b ≡ true) (map (λ set. false ∷ set) bs)
    head a [] = tt
    head a (b ∷ bs) = (refl, head a bs)

    heads : (sets bs : List (List Bool))
        → Across is_first_set (map (λ set. true ∷ set) sets) (map (λ set. false ∷ set) bs)
    heads [] bs = tt
    heads (a ∷ sets) bs = (head a bs, heads sets bs)

weight-support : (v : List ℕ) → weight v ≡ trues (support_of v)
weight-support [] = refl
weight-support (a ∷ v) =
    cc (sum_by-cons (λ c. cond (ltb 0 c) 1 0) a v, weight-support v, one (ltb 0 a) (support_of v))
  where
    one : (b : Bool) (set : List Bool) → cond b 1 0 + trues set ≡ trues (b ∷ set)
    one true set = omega arith
    one false set = omega arith

-- the three ways to be before another: with fewer factors, with the first set of as many, or with the same set
by_size : (l r : Bool) → l ≡ true → (l || r) ≡ true
by_size true r e = refl
by_size false r e = absurd (search rules)

by_set : (l e s r : Bool) → e ≡ true → s ≡ true → (l || (e && (s || r))) ≡ true
by_set true e s r is first = refl
by_set false e s r is first = rw (is, first)

by_last : (l e s n : Bool) → e ≡ true → n ≡ true → (l || (e && (s || (not s && n)))) ≡ true
by_last true e s n is less = refl
by_last false e true n is less = rw is
by_last false e false n is less = rw (is, less)

module _ (q : ℕ) (some : 2 ≤ q) where
  abbrev by_number : List ℕ → List ℕ → Bool
  by_number u v = ltb (number q u) (number q v)

  codes-rise : (later : List Bool) → IsRising ltb (codes_before q later)
  codes-rise later = by_test _
    where
      by_test : (b : Bool) → IsRising ltb (cond b (range_with_len 1 (q - 1)) (1 ∷ []))
      by_test true = rising-range 1 _
      by_test false = (tt, tt)

  further : (a b m n : ℕ) → a < q → m < n → a + q * m < b + q * n
  further a b m n low less =
      let up : q * m + q ≤ q * n = rw (← (mul-suc q m)) (mul-le-mul_left q (omega (arith, less))) in
      omega arith

  numbers-rise : (set : List Bool) → IsRising by_number (normal_vectors q set)
  numbers-rise [] = (tt, tt)
  numbers-rise (false ∷ later) =
      rising-map by_number by_number _ (λ v. 0 ∷ v)
      (λ u v hu hv h. lt-ltb _ _ (further 0 0 (number q u) (number q v) (omega arith) (ltb-true _ _ h)))
      _ (each-all (λ x. Unit {0}) (normal_vectors q later) (λ x. tt)) (numbers-rise later)
  numbers-rise (true ∷ later) =
      let codes = codes_before q later in
      let low = codes-below q later some in
      rising-flat by_number by_number _ (λ v. map (λ c. c ∷ v) codes)
      (λ v hv. rising-map by_number ltb _ (λ c. c ∷ v)
      (λ c e hc he h. lt-ltb _ _ (omega (arith, ltb-true c e h))) codes low (codes-rise later))
      (λ u v hu hv h. across-all by_number (λ x. (c : ℕ) × (c < q) × (x ≡ c ∷ u)) (λ x. (c : ℕ) × (x ≡ c ∷ v))
      (λ x y hx hy.
      subst (λ z. by_number z y ≡ true) (sym hx.2)
      (subst (λ z. by_number (hx.0 ∷ u) z ≡ true) (sym hy.1)
      (lt-ltb _ _ (further hx.0 hy.0 (number q u) (number q v) hx.1 (ltb-true _ _ h)))))
      (map (λ c. c ∷ u) codes) (map (λ c. c ∷ v) codes)
      (mapped _ _ (λ c. c ∷ u) (λ c hc. (c, hc, refl)) codes low)
      (mapped _ _ (λ c. c ∷ v) (λ c hc. (c, refl)) codes low))
      _ (each-all (λ x. Unit {0}) (normal_vectors q later) (λ x. tt)) (numbers-rise later)

  codes-positive : (later : List Bool) → AllByRecursion (λ c. ltb 0 c ≡ true) (codes_before q later)
  codes-positive later = by_test _
    where
      by_test : (b : Bool) → AllByRecursion (λ c. ltb 0 c ≡ true) (cond b (range_with_len 1 (q - 1)) (1 ∷ []))
      by_test true = each-range (λ c. ltb 0 c ≡ true) 1 _ (λ c low high. lt-ltb 0 c (omega arith))
      by_test false = (refl, tt)

  supports-are : (set : List Bool) → AllByRecursion (λ v. support_of v ≡ set) (normal_vectors q set)
  supports-are [] = (refl, tt)
  supports-are (false ∷ later) =
      mapped (λ v. support_of v ≡ false ∷ later) (λ v. support_of v ≡ later) (λ v. 0 ∷ v)
      (λ v h. ap (λ l. false ∷ l) h) (normal_vectors q later) (supports-are later)
  supports-are (true ∷ later) =
      flat (λ v. support_of v ≡ true ∷ later) (λ v. support_of v ≡ later) (λ v. map (λ c. c ∷ v) (codes_before q later))
      (λ v h. mapped (λ v. support_of v ≡ true ∷ later) (λ c. ltb 0 c ≡ true) (λ c. c ∷ v)
      (λ c hc. rw (hc, h) refl) (codes_before q later) (codes-positive later))
      _ (supports-are later)

  -- vectors on the same factors, by number
  within : (set : List Bool) (u v : List ℕ) → support_of u ≡ set → support_of v ≡ set → by_number u v ≡ true
      → is_before q u v ≡ true
  within set u v hu hv h =
      let sized : eqb (weight u) (weight v) ≡ true =
      eq-eqb _ _ (weight-support u ∙ ap trues (hu ∙ sym hv) ∙ sym (weight-support v)) in
      rw (hu, hv) (by_last _ _ _ _ sized h)

  -- vectors on as many factors, by these
  between : (a b : List Bool) (u v : List ℕ) → trues a ≡ trues b → is_first_set a b ≡ true → support_of u ≡ a
      → support_of v ≡ b → is_before q u v ≡ true
  between a b u v many h hu hv =
      let sized : eqb (weight u) (weight v) ≡ true =
      eq-eqb _ _ (weight-support u ∙ ap trues hu ∙ many ∙ sym (ap trues hv) ∙ sym (weight-support v)) in
      rw (hu, hv) (by_set _ _ _ _ sized h)

  of_set : (set : List Bool) → IsRising (is_before q) (normal_vectors q set)
  of_set set =
      subst (IsRising (is_before q)) (map-id (normal_vectors q set))
      (rising-map (is_before q) by_number _ (λ v. v) (within set) _
      (supports-are set) (numbers-rise set))

  of_size : (k s : ℕ) → IsRising (is_before q) (flat_map (normal_vectors q) (supports k s))
  of_size k s =
      rising-flat _ is_first_set _ _ (λ set e. of_set set)
      (λ a b ha hb h. across-all (is_before q) _ _
      (λ u v hu hv. between a b u v (cc) h hu hv) _ _ (supports-are a)
      (supports-are b))
      _ (all_of k s) (rising-sets k s)

  weights-are : (k s : ℕ) → AllByRecursion (λ v. weight v ≡ k) (flat_map (normal_vectors q) (supports k s))
  weights-are k s =
      flat (λ v. weight v ≡ k) _ _
      (λ set e. sized set e _ (supports-are set)) _ (all_of k s)
    where
      sized : (set : List Bool) → trues set ≡ k → (vs : List (List ℕ)) → AllByRecursion (λ v. support_of v ≡ set) vs
          → AllByRecursion (λ v. weight v ≡ k) vs
      sized set e [] h = tt
      sized set e (v ∷ vs) h = (cc (weight-support v), sized set e vs h.1)

  pub rising : (s d : ℕ) → IsRising (is_before q) (components q s d)
  rising s d =
      rising-flat _ ltb _ (λ k. flat_map (normal_vectors q) (supports (k + 1) s))
      (λ k hk. of_size (k + 1) s)
      (λ j k hj hk h. across-all (is_before q) _ _
      (λ u v hu hv. by_size _ _
      (lt-ltb (weight u) (weight v) (omega (arith, ltb-true j k h))))
      _ _
      (weights-are (j + 1) s) (weights-are (k + 1) s))
      _ (each-all (λ x. Unit {0}) (range_with_len 0 d) (λ x. tt)) (rising-range 0 d)

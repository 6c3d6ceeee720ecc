-- The order of lists of rows: all lists stand in it, and the first that passes a test is found.
use Rattle.std.proofs.Common.{◌≡◌, ℕ, zero, suc, ◌<◌, ◌≤◌, Bool, true, false, ◌&&◌, eqb, ltb, List, [], ◌∷◌, ◌++◌, map}
use Rattle.std.proofs.Common.{length, Some, None, refl, sym, ◌∙◌, ◌⊎◌, inl, inr, arith, subst, eq-eqb, lt-ltb}
use Rattle.std.proofs.Common.{le-ltb, ltb-true, eqb-true}
use Rattle.std.specs.Bool.{⊤}
use Rattle.std.specs.List.{filter, find, flat_map, AllByRecursion}
use Rattle.std.proofs.lemmas.Bool.{cond-true, cond-false, cases_Bool, and_from, and_right, or_left, or_right, or_from}
use Rattle.std.proofs.lemmas.Bool.{or_cases, and_parts, false_from_ne_true, cases_lt}
use Rattle.fx_designs.specs.Answers.{before, falling, lists}
use Rattle.fx_base.specs.Members.{Has}
use Rattle.fx_base.proofs.Lists.{each-all, each-append, each-map, each-weaker, find-filter}
use Rattle.fx_base.proofs.Members.{has-each, has-left, has-map, has-right}

pub each-flat_map : {X Y : Type 0} (P : Y → Type 0) (f : X → List Y) (xs : List X) → ((x : X) → AllByRecursion P (f x))
    → AllByRecursion P (flat_map f xs)
each-flat_map P f [] h = tt
each-flat_map P f (x ∷ xs) h = each-append P (f x) (flat_map f xs) (h x) (each-flat_map P f xs h)

pub nonempty : (b k : ℕ) → AllByRecursion (λ s. 0 < length s) (lists b k)
unfolding lists
nonempty b zero = tt
nonempty b (suc k) =
    each-flat_map (λ s. 0 < length s) (λ r. map (λ s. r ∷ s) ([] ∷ lists b k)) (falling b)
    (λ r. each-map (λ s. 0 < length s) (λ s. r ∷ s) ([] ∷ lists b k)
    (each-all _ ([] ∷ lists b k) (λ s. let e : 0 < length (r ∷ s) = omega arith in e)))

pub before-self : (p : List ℕ) → before p p ≡ false
before-self [] = refl
before-self (a ∷ p) = or_from _ _ (le-ltb a a (omega arith)) (and_right _ _ (before-self p))

pub before-trans : (p q r : List ℕ) → before p q ≡ true → before q r ≡ true → before p r ≡ true
before-trans p q [] h k = k
before-trans p [] (c ∷ r) h k = absurd (cc h)
before-trans [] (b ∷ q) (c ∷ r) h k = refl
before-trans (a ∷ p) (b ∷ q) (c ∷ r) h k =
    elim (or_cases (ltb b a) (eqb a b && before p q) h) [
      | inl x ↦ elim (or_cases (ltb c b) (eqb b c && before q r) k) [
        | inl y ↦ let x' = ltb-true b a x in let y' = ltb-true c b y in or_left _ _ (lt-ltb c a (omega arith))
        | inr y ↦ let x' = ltb-true b a x in let y' = eqb-true b c (and_parts _ _ y).0 in
            or_left _ _ (lt-ltb c a (omega arith))
      ]
      | inr x ↦ elim (or_cases (ltb c b) (eqb b c && before q r) k) [
        | inl y ↦ let x' = eqb-true a b (and_parts _ _ x).0 in let y' = ltb-true c b y in
            or_left _ _ (lt-ltb c a (omega arith))
        | inr y ↦
            let x' = eqb-true a b (and_parts _ _ x).0 in
            let y' = eqb-true b c (and_parts _ _ y).0 in
            or_right _ _
            (and_from _ _ (eq-eqb a c (omega arith)) (before-trans p q r (and_parts _ _ x).1 (and_parts _ _ y).1))
      ]
    ]

pub before-not : (p q : List ℕ) → before p q ≡ true → before q p ≡ false
before-not p q h =
    false_from_ne_true (before q p) (λ k. let e = before-trans p q p h k in let f = before-self p in absurd (cc (e, f)))

-- each item precedes all later ones
abbrev pub Sorted : List (List ℕ) → Type 0
Sorted [] = ⊤
Sorted (x ∷ xs) = AllByRecursion (λ y. before x y ≡ true) xs × Sorted xs

sorted-append : (xs ys : List (List ℕ)) → Sorted xs → Sorted ys
    → AllByRecursion (λ x. AllByRecursion (λ y. before x y ≡ true) ys) xs → Sorted (xs ++ ys)
sorted-append [] ys a b c = b
sorted-append (x ∷ xs) ys a b c = (each-append (λ y. before x y ≡ true) xs ys a.0 c.0, sorted-append xs ys a.1 b c.1)

before-cons : (r : ℕ) (x y : List ℕ) → before x y ≡ true → before (r ∷ x) (r ∷ y) ≡ true
before-cons r x y h = or_right _ _ (and_from _ _ (eq-eqb r r refl) h)

sorted-map : (r : ℕ) (xs : List (List ℕ)) → Sorted xs → Sorted (map (λ s. r ∷ s) xs)
sorted-map r [] h = tt
sorted-map r (x ∷ xs) h = (
  each-map (λ y. before (r ∷ x) y ≡ true) (λ s. r ∷ s) xs
      (each-weaker (λ y. before x y ≡ true) _ xs (λ y k. before-cons r x y k) h.0),
  sorted-map r xs h.1,
)

abbrev BeginsBelow : ℕ → List ℕ → Type 0
BeginsBelow r [] = ⊤
BeginsBelow r (c ∷ s) = c < r

abbrev begin : ℕ → ℕ → ℕ → List (List ℕ)
begin b k r = map (λ s. r ∷ s) ([] ∷ lists b k)

begin-below : (b k r n : ℕ) → r ≤ n
    → AllByRecursion (λ y. 0 < length y × BeginsBelow n y) (flat_map (begin b k) (falling r))
begin-below b k zero n h = tt
begin-below b k (suc r) n h =
    each-append (λ y. 0 < length y × BeginsBelow n y) (begin b k r) (flat_map (begin b k) (falling r))
    (each-map (λ y. 0 < length y × BeginsBelow n y) (λ s. r ∷ s) ([] ∷ lists b k)
    (each-all _ ([] ∷ lists b k)
    (λ s. let e : 0 < length (r ∷ s) = omega arith in let f : r < n = omega arith in (e, f))))
    (begin-below b k r n (omega arith))

after-begin : (r : ℕ) (s y : List ℕ) → 0 < length y → BeginsBelow r y → before (r ∷ s) y ≡ true
after-begin r s [] h k = absurd (omega arith)
after-begin r s (c ∷ y) h k = or_left _ _ (lt-ltb c r k)

nil-first : (y : List ℕ) → 0 < length y → before [] y ≡ true
nil-first [] h = absurd (omega arith)
nil-first (c ∷ y) h = refl

sorted-begin : (b k r : ℕ) → Sorted (lists b k) → Sorted (flat_map (begin b k) (falling r))
sorted-begin b k zero h = tt
sorted-begin b k (suc r) h =
    sorted-append (begin b k r) (flat_map (begin b k) (falling r))
    (sorted-map r ([] ∷ lists b k) (each-weaker (λ s. 0 < length s) _ (lists b k) nil-first (nonempty b k), h))
    (sorted-begin b k r h)
    (each-map (λ x. AllByRecursion (λ y. before x y ≡ true) (flat_map (begin b k) (falling r))) (λ s. r ∷ s)
    ([] ∷ lists b k)
    (each-all _ ([] ∷ lists b k)
    (λ s. each-weaker (λ y. 0 < length y × BeginsBelow r y) (λ y. before (r ∷ s) y ≡ true)
    (flat_map (begin b k) (falling r)) (λ y z. after-begin r s y z.0 z.1) (begin-below b k r r (omega arith)))))

pub lists-sorted : (b k : ℕ) → Sorted (lists b k)
unfolding lists
lists-sorted b zero = tt
lists-sorted b (suc k) = sorted-begin b k b (lists-sorted b k)

pub lists-short : (b k : ℕ) → AllByRecursion (λ s. length s ≤ k) (lists b k)
unfolding lists
lists-short b zero = tt
lists-short b (suc k) =
    each-flat_map (λ s. length s ≤ suc k) (λ r. map (λ s. r ∷ s) ([] ∷ lists b k)) (falling b)
    (λ r. each-map (λ s. length s ≤ suc k) (λ s. r ∷ s) ([] ∷ lists b k) (
      let e : length (r ∷ []) ≤ suc k = omega arith in
          e,
      each-weaker (λ s. length s ≤ k) _ (lists b k) (λ s h. let e : length (r ∷ s) ≤ suc k = omega arith in e)
          (lists-short b k),
    ))

in_begin : (b k r n : ℕ) (s : List ℕ) → r < n → Has s ([] ∷ lists b k)
    → Has (r ∷ s) (flat_map (begin b k) (falling n))
in_begin b k r zero s low h = absurd (omega arith)
in_begin b k r (suc n) s low h =
    elim (cases_lt r n) [
      | inl a ↦ has-right (r ∷ s) (begin b k n) (flat_map (begin b k) (falling n)) (in_begin b k r n s a h)
      | inr a ↦ let e : r ≡ n = omega arith in
          has-left (r ∷ s) (begin b k n) (flat_map (begin b k) (falling n))
          (subst (λ z. Has (r ∷ s) (begin b k z)) e (has-map (λ x. r ∷ x) s ([] ∷ lists b k) h))
    ]

-- each list of one to k rows below b
pub all_lists : (b k : ℕ) (x : List ℕ) → 0 < length x → length x ≤ k → AllByRecursion (λ r. r < b) x
    → Has x (lists b k)
unfolding lists
all_lists b zero x some short low = absurd (omega arith)
all_lists b (suc k) [] some short low = absurd (omega arith)
all_lists b (suc k) (r ∷ []) some short low = in_begin b k r b [] low.0 (inl refl)
all_lists b (suc k) (r ∷ s ∷ x) some short low =
    in_begin b k r b (s ∷ x) low.0 (inr (all_lists b k (s ∷ x) (omega arith) (omega arith) low.1))

first_is : (x d : List ℕ) (xs : List (List ℕ)) → Sorted (x ∷ xs) → Has d (x ∷ xs) → (x ≡ d) ⊎ (before x d ≡ true)
first_is x d xs sorted (inl e) = inl (sym e)
first_is x d xs sorted (inr h) = inr (has-each (λ y. before x y ≡ true) d xs sorted.0 h)

module _ (D : List ℕ → Bool) where
  not_first : (x d : List ℕ) (xs : List (List ℕ)) → Has d (x ∷ xs) → D d ≡ true → D x ≡ false → Has d xs
  not_first x d xs (inl e) passes fails = let z : D x ≡ true = cc (e, passes) in absurd (cc)
  not_first x d xs (inr h) passes fails = h

  -- an item that passes, of all that pass in a sorted list, and the first found
  pub found_first : (xs : List (List ℕ)) (d : List ℕ) → Sorted xs → Has d xs → D d ≡ true
      → (e : List ℕ) × (find D xs ≡ Some e) × (D e ≡ true) × ((e ≡ d) ⊎ (before e d ≡ true))
  found_first [] d sorted there passes = absurd there
  found_first (x ∷ xs) d sorted there passes =
      elim (cases_Bool (D x)) [
        | inl holds ↦ (x, cond-true (D x) (Some x) (find D xs) holds, holds, first_is x d xs sorted there)
        | inr fails ↦
            let rest = found_first xs d sorted.1 (not_first x d xs there passes fails) passes in
            (rest.0, cond-false (D x) (Some x) (find D xs) fails ∙ rest.1, rest.2, rest.3)
      ]

  pub none_found : (xs : List (List ℕ)) → ((d : List ℕ) → D d ≡ true → ⊥) → find D xs ≡ None
  none_found [] none = refl
  none_found (x ∷ xs) none =
      cond-false (D x) (Some x) (find D xs) (false_from_ne_true (D x) (none x)) ∙ none_found xs none

  -- the item that is found passes
  pub found_passes : (xs : List (List ℕ)) (e : List ℕ) → find D xs ≡ Some e → D e ≡ true
  found_passes [] e h = absurd (cc)
  found_passes (x ∷ xs) e h =
      elim (cases_Bool (D x)) [
        | inl holds ↦
            (let s : Some x ≡ Some e = sym (cond-true (D x) (Some x) (find D xs) holds) ∙ h in let z : x ≡ e = cc in
            rw z at holds)
        | inr fails ↦ found_passes xs e (sym (cond-false (D x) (Some x) (find D xs) fails) ∙ h)
      ]

  -- the first that passes, of a sorted list that has it
  pub first_found : (xs : List (List ℕ)) (d : List ℕ) → Sorted xs → Has d xs → D d ≡ true
      → ((e : List ℕ) → D e ≡ true → before e d ≡ true → ⊥) → find D xs ≡ Some d
  first_found xs d sorted there passes first =
      let e = found_first xs d sorted there passes in
      elim (e.3) [
        | inl same ↦ cc (e.1, same)
        | inr earlier ↦ absurd (first e.0 e.2 earlier)
      ]

-- what is found of those that pass a test passes it
pub found_in_filter : (D E : List ℕ → Bool) (xs : List (List ℕ)) (x : List ℕ) → find E (filter D xs) ≡ Some x
    → D x ≡ true
found_in_filter D E xs x h =
    (and_parts _ _ (found_passes (λ y. D y && E y) xs x (sym (find-filter D E xs) ∙ h))).0

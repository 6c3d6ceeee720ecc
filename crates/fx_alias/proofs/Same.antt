-- Classes by numbers that are the same.
use Rattle.std.proofs.Common.{ℕ, ◌≡◌, ◌<◌, ◌||◌, Bool, cond, eqb, not, List, [], ◌∷◌, ◌++◌, length, map, filter, get_or}
use Rattle.std.proofs.Common.{refl, sym, ◌∙◌, ap, arith, ext_get_or}
use Rattle.std.specs.List.{list_any, range_with_len, AllByRecursion}
use Rattle.std.proofs.lemmas.Bool.{eq-eqb}
use Rattle.std.proofs.lemmas.List.{get_or-map}
use Rattle.std.proofs.lemmas.List.FromFn.{length-map-range_with_len, get_or-map-range_with_len}
use Rattle.std.proofs.lemmas.List.Elements.{filter_agree}
use mathlib.Core.Bool.{not-not}
use Rattle.fx_base.proofs.Numbers.{eqb_comm}
use Rattle.fx_base.proofs.Lists.{filter_agree_each, list_any_agree, each-append}
use Rattle.fx_base.proofs.Ranges.{each-range}
use Rattle.fx_alias.specs.Classes.{numbered_behind}
use Rattle.fx_alias.proofs.Walk.{is_first, added, filter_mapped, numbered_mapped}

-- what a place adds, told by the group of its number
pub added_first : (number : ℕ → ℕ) (n i : ℕ) (group : List ℕ) → i < n
    → group ≡ filter (λ j. eqb (number j) (number i)) (range_with_len 0 n)
    → cond (eqb (number i) 0 || not (eqb (get_or group 0 0) i)) [] (group ∷ [])
    ≡ added number (range_with_len 0 n) (range_with_len 0 i) i
added_first number n i group low is =
    let p : ℕ → Bool = λ j. eqb (number j) (number i) in
    let first = ap (λ l. eqb (get_or l 0 0) i) is ∙ is_first p n i low (eq-eqb _ _ refl) in
    let twice = not-not in
    cc (
      twice (list_any p (range_with_len 0 i)),
      list_any_agree p (λ v. eqb (number i) (number v))
          (λ v. eqb_comm (number v) (number i)) (range_with_len 0 i),
      filter_agree p (λ v. eqb (number i) (number v))
          (λ v. eqb_comm (number v) (number i)) (range_with_len 0 n),
    )

any_each : (p r : ℕ → Bool) (xs : List ℕ) → AllByRecursion (λ x. p x ≡ r x) xs → list_any p xs ≡ list_any r xs
any_each p r [] h = refl
any_each p r (x ∷ xs) h = cc (any_each p r xs h.1)

module _ (f g : ℕ → ℕ) where
  tests : (k l : ℕ) (xs : List ℕ) → k ≡ l → AllByRecursion (λ x. f x ≡ g x) xs
      → AllByRecursion (λ x. eqb k (f x) ≡ eqb l (g x)) xs
  tests k l [] e h = tt
  tests k l (x ∷ xs) e h = (cc, tests k l xs e h.1)

  -- numbers that are the same give the same classes
  pub numbered_same : (items before rest : List ℕ) → AllByRecursion (λ x. f x ≡ g x) items
      → AllByRecursion (λ x. f x ≡ g x) before → AllByRecursion (λ x. f x ≡ g x) rest
      → numbered_behind f items before rest ≡ numbered_behind g items before rest
  numbered_same items before [] h k r = refl
  numbered_same items before (x ∷ rest) h k r =
      cc (
        any_each _ _ before (tests _ _ before r.0 k),
        filter_agree_each _ _ items (tests _ _ items r.0 h),
        numbered_same items (before ++ x ∷ []) rest h (each-append _ before _ k (r.0, tt)) r.1,
      )

-- a list is what stands at its places
pub at_all : (xs : List (List ℕ)) → map (λ i. get_or xs i []) (range_with_len 0 (length xs)) ≡ xs
at_all xs =
    ext_get_or [] _ xs (length-map-range_with_len (λ i. get_or xs i []) 0 _)
    (λ k low. get_or-map-range_with_len (λ i. get_or xs i []) 0 _ k k []
    (omega (arith, length-map-range_with_len (λ i. get_or xs i []) 0 (length xs))) (omega arith))

same_at : (number : List ℕ → ℕ) (components : List (List ℕ)) (numbers : List ℕ) → numbers ≡ map number components
    → AllByRecursion (λ i. number (get_or components i []) ≡ get_or numbers i 0) (range_with_len 0 (length components))
same_at number components numbers is =
    each-range (λ i. number (get_or components i []) ≡ get_or numbers i 0) 0 _
    (λ i low high. sym (get_or-map number components i [] 0 (omega arith)) ∙ ap (λ l. get_or l i 0) (sym is))

-- the classes of components by the numbers at their places
pub classes_at : (number : List ℕ → ℕ) (components : List (List ℕ)) (numbers : List ℕ) → numbers ≡ map number components
    → numbered_behind number components [] components
    ≡ map (map (λ i. get_or components i []))
    (numbered_behind (λ i. get_or numbers i 0) (range_with_len 0 (length components)) []
    (range_with_len 0 (length components)))
classes_at number components numbers is =
    let n = length components in
    let at : ℕ → List ℕ = λ i. get_or components i [] in
    let same = same_at number components numbers is in
    cc (
      at_all components,
      numbered_mapped at number (range_with_len 0 n) [] (range_with_len 0 n),
      numbered_same _ _ _
          [] _ same tt
          same,
    )

number_tests : (f g : ℕ → ℕ) (z : ℕ) (xs : List ℕ) → AllByRecursion (λ x. f x ≡ g x) xs
    → AllByRecursion (λ x. eqb (g x) z ≡ eqb (f x) z) xs
number_tests f g z [] h = tt
number_tests f g z (x ∷ xs) h = (cc, number_tests f g z xs h.1)

-- the components of one number by the numbers at their places
pub items_at : (number : List ℕ → ℕ) (components : List (List ℕ)) (numbers : List ℕ) (z : ℕ)
    → numbers ≡ map number components
    → map (λ i. get_or components i [])
    (filter (λ i. eqb (get_or numbers i 0) z) (range_with_len 0 (length components)))
    ≡ filter (λ u. eqb (number u) z) components
items_at number components numbers z is =
    let places = range_with_len 0 (length components) in
    let at : ℕ → List ℕ = λ i. get_or components i [] in
    cc (
      filter_agree_each _ _ places
          (number_tests _ _ z places (same_at number components numbers is)),
      filter_mapped at number (λ u. eqb (number u) z)
          places,
      at_all components,
    )

-- Classes as lists of places among the components: steps of a walk over the components.
use Rattle.std.proofs.Common.{ℕ, zero, suc, ◌≡◌, ◌<◌, ◌+◌, ◌-◌, ◌||◌, Bool, true, false, cond, eqb, not, List, [], ◌∷◌}
use Rattle.std.proofs.Common.{◌++◌, map, filter, get_or, refl, sym, ◌∙◌, ap, ap₂, arith, append_assoc, append-nil}
use Rattle.std.proofs.Common.{length, length-append}
use Rattle.std.specs.List.{list_any, range_with_len}
use Rattle.std.proofs.lemmas.Bool.{eq-eqb, ne_eqb}
use Rattle.std.proofs.lemmas.List.{map-append}
use Rattle.std.proofs.lemmas.List.Elements.{filter-append}
use Rattle.fx_alias.specs.Classes.{numbered_behind}

-- what u adds to the classes, where `before` precede it
abbrev pub added : {X : Type 0} → (X → ℕ) → List X → List X → X → List (List X)
added number items before u =
    cond (eqb (number u) 0 || list_any (λ v. eqb (number u) (number v)) before) []
    (filter (λ v. eqb (number u) (number v)) items ∷ [])

-- one more component
pub numbered_more : {X : Type 0} (number : X → ℕ) (items before xs : List X) (u : X)
    → numbered_behind number items before (xs ++ u ∷ [])
    ≡ numbered_behind number items before xs ++ added number items (before ++ xs) u
numbered_more number items before [] u =
    cc (append-nil (added number items before u), append-nil before)
numbered_more {X} number items before (x ∷ xs) u =
    cc (
      numbered_more number items (before ++ x ∷ []) xs u,
      append_assoc before (x ∷ []) xs,
      append_assoc
          (added number items before x) (numbered_behind number items (before ++ x ∷ []) xs)
          (added number items (before ++ x ∷ xs) u),
    )

module _ {X Y : Type 0} (g : Y → X) (number : X → ℕ) where
  any_mapped : (p : X → Bool) (ys : List Y) → list_any p (map g ys) ≡ list_any (λ y. p (g y)) ys
  any_mapped p [] = refl
  any_mapped p (y ∷ ys) = cc (any_mapped p ys)

  pub filter_mapped : (p : X → Bool) (ys : List Y) → filter p (map g ys) ≡ map g (filter (λ y. p (g y)) ys)
  filter_mapped p [] = refl
  filter_mapped p (y ∷ ys) = by_test _ _ _ (filter_mapped p ys)
    where
      by_test : (b : Bool) (l : List Y) (k : List X) → k ≡ map g l → cond b (g y ∷ k) k ≡ map g (cond b (y ∷ l) l)
      by_test true l k e = cc
      by_test false l k e = e

  added_mapped : (b : Bool) (class : List X) (places : List Y) → class ≡ map g places
      → cond b [] (class ∷ []) ≡ map (map g) (cond b [] (places ∷ []))
  added_mapped true class places e = refl
  added_mapped false class places e = cc

  -- classes of what stands at places are what stands at the places of classes
  pub numbered_mapped : (items before rest : List Y)
      → numbered_behind number (map g items) (map g before) (map g rest)
      ≡ map (map g) (numbered_behind (λ y. number (g y)) items before rest)
  numbered_mapped items before [] = refl
  numbered_mapped items before (y ∷ rest) =
      let u = g y in
      ap₂ (λ a b. a ++ b)
      (ap (λ b. cond (eqb (number u) 0 || b) [] (filter (λ v. eqb (number u) (number v)) (map g items) ∷ []))
      (any_mapped (λ v. eqb (number u) (number v)) before)
      ∙ added_mapped (eqb (number u) 0 || list_any (λ z. eqb (number u) (number (g z))) before) _
      _ (filter_mapped (λ v. eqb (number u) (number v)) items))
      (ap (λ b. numbered_behind number (map g items) b (map g rest)) (sym (map-append g before (y ∷ []))) ∙
      numbered_mapped items (before ++ y ∷ []) rest)
      ∙ sym (map-append (map g) (added (λ y. number (g y)) items before y)
      (numbered_behind (λ y. number (g y)) items (before ++ y ∷ []) rest))

module _ (p : ℕ → Bool) where
  split : (a n i : ℕ) → i < n
      → range_with_len a n ≡ range_with_len a i ++ (a + i) ∷ range_with_len (a + i + 1) (n - i - 1)
  split a zero i low = absurd (omega arith)
  split a (suc n) zero low =
      let e : a + 0 ≡ a = omega arith in
      let k : suc n - 0 - 1 ≡ n = omega arith in
      rw (e, k)
  split a (suc n) (suc i) low =
      let e : a + suc i ≡ a + 1 + i = omega arith in
      let k : suc n - suc i - 1 ≡ n - i - 1 = omega arith in
      rw (e, k) (cc (split (a + 1) n i (omega arith)))

  first_of : (a n : ℕ) (rest : List ℕ) (i : ℕ) → a + n ≡ i
      → eqb (get_or (filter p (range_with_len a n) ++ i ∷ rest) 0 0) i ≡ not (list_any p (range_with_len a n))
  first_of a zero rest i e = eq-eqb i i refl
  first_of a (suc n) rest i e = by_test _ (first_of (a + 1) n rest i (omega arith))
    where
      by_test : (b : Bool)
          → eqb (get_or (filter p (range_with_len (a + 1) n) ++ i ∷ rest) 0 0) i
          ≡ not (list_any p (range_with_len (a + 1) n))
          → eqb (get_or
          (cond b (a ∷ filter p (range_with_len (a + 1) n)) (filter p (range_with_len (a + 1) n)) ++ i ∷ rest) 0 0)
          i ≡ not (b || list_any p (range_with_len (a + 1) n))
      by_test true h = ne_eqb a i (omega arith)
      by_test false h = h

  -- a place that passes is the first of those that do exactly where none before it does
  pub is_first : (n i : ℕ) → i < n → p i ≡ true
      → eqb (get_or (filter p (range_with_len 0 n)) 0 0) i ≡ not (list_any p (range_with_len 0 i))
  is_first n i low passes =
      let e : 0 + i ≡ i = omega arith in
      let rest = range_with_len (i + 1) (n - i - 1) in
      let parts : range_with_len 0 n ≡ range_with_len 0 i ++ i ∷ rest =
      cc (split 0 n i low) in
      ap (λ l. eqb (get_or (filter p l) 0 0) i) parts
      ∙ ap (λ l. eqb (get_or l 0 0) i)
      (filter-append p (range_with_len 0 i) (i ∷ rest) ∙ ap
      (λ b. filter p (range_with_len 0 i) ++ cond b (i ∷ filter p rest) (filter p rest)) passes)
      ∙ first_of 0 i (filter p rest) i (omega arith)

  -- some place passes
  pub some_in : (n i : ℕ) → i < n → p i ≡ true → 0 < length (filter p (range_with_len 0 n))
  some_in n i low passes =
      let e : 0 + i ≡ i = omega arith in
      let rest = range_with_len (i + 1) (n - i - 1) in
      let parts : range_with_len 0 n ≡ range_with_len 0 i ++ i ∷ rest =
      cc (split 0 n i low) in
      let is : filter p (range_with_len 0 n) ≡ filter p (range_with_len 0 i) ++ i ∷ filter p rest =
      cc (filter-append p (range_with_len 0 i) (i ∷ rest)) in
      omega (arith, ap length is, length-append (filter p (range_with_len 0 i)) (i ∷ filter p rest))

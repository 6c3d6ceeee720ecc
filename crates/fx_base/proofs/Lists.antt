-- Lists: what holds of each element, tests and functions that agree, and what stands from a place on.
use Rattle.std.proofs.Common.{◌≡◌, ℕ, zero, suc, ◌+◌, ◌<◌, Bool, true, false, ◌&&◌, cond, List, [], ◌∷◌, ◌++◌}
use Rattle.std.proofs.Common.{length, get_or, map, take, drop, Some, refl, ap₂, arith}
use Rattle.std.specs.List.{filter, find, list_any, AllByRecursion}
use Rattle.std.proofs.lemmas.List.{drop_more}

module _ {X : Type 0} (P : X → Type 0) where
  pub each-append : (xs ys : List X) → AllByRecursion P xs → AllByRecursion P ys → AllByRecursion P (xs ++ ys)
  each-append [] ys h k = k
  each-append (x ∷ xs) ys h k = (h.0, each-append xs ys h.1 k)

  pub each-append_parts : (xs ys : List X) → AllByRecursion P (xs ++ ys) → AllByRecursion P xs × AllByRecursion P ys
  each-append_parts [] ys h = (tt, h)
  each-append_parts (x ∷ xs) ys h = let parts = each-append_parts xs ys h.1 in ((h.0, parts.0), parts.1)

  pub each-all : (xs : List X) → ((x : X) → P x) → AllByRecursion P xs
  each-all [] h = tt
  each-all (x ∷ xs) h = (h x, each-all xs h)

  pub each-take : (n : ℕ) (xs : List X) → AllByRecursion P xs → AllByRecursion P (take n xs)
  each-take zero xs h = tt
  each-take (suc n) [] h = tt
  each-take (suc n) (x ∷ xs) h = (h.0, each-take n xs h.1)

  pub each-drop : (n : ℕ) (xs : List X) → AllByRecursion P xs → AllByRecursion P (drop n xs)
  each-drop zero xs h = h
  each-drop (suc n) [] h = tt
  each-drop (suc n) (x ∷ xs) h = each-drop n xs h.1

  pub each-get_or : (xs : List X) (i : ℕ) (d : X) → AllByRecursion P xs → i < length xs → P (get_or xs i d)
  each-get_or [] i d h low = absurd (omega arith)
  each-get_or (x ∷ xs) zero d h low = h.0
  each-get_or (x ∷ xs) (suc i) d h low = each-get_or xs i d h.1 (omega arith)

pub each-map : {X Y : Type 0} (P : Y → Type 0) (f : X → Y) (xs : List X) → AllByRecursion (λ x. P (f x)) xs
    → AllByRecursion P (map f xs)
each-map P f [] h = tt
each-map P f (x ∷ xs) h = (h.0, each-map P f xs h.1)

module _ {X : Type 0} (P Q : X → Type 0) where
  pub each-weaker : (xs : List X) → ((x : X) → P x → Q x) → AllByRecursion P xs → AllByRecursion Q xs
  each-weaker [] h k = tt
  each-weaker (x ∷ xs) h k = (h x k.0, each-weaker xs h k.1)

  pub each-both : (xs : List X) → AllByRecursion P xs → AllByRecursion Q xs → AllByRecursion (λ x. P x × Q x) xs
  each-both [] h k = tt
  each-both (x ∷ xs) h k = ((h.0, k.0), each-both xs h.1 k.1)

-- tests that agree
module _ {X : Type 0} (p q : X → Bool) where
  pub filter_agree_each : (xs : List X) → AllByRecursion (λ x. p x ≡ q x) xs → filter p xs ≡ filter q xs
  filter_agree_each [] h = refl
  filter_agree_each (x ∷ xs) h = ap₂ (λ (b : Bool) (l : List X). cond b (x ∷ l) l) h.0 (filter_agree_each xs h.1)

  pub find_agree : ((x : X) → p x ≡ q x) → (xs : List X) → find p xs ≡ find q xs
  find_agree h [] = refl
  find_agree h (x ∷ xs) = cc (h x, find_agree h xs)

  pub list_any_agree : ((x : X) → p x ≡ q x) → (xs : List X) → list_any p xs ≡ list_any q xs
  list_any_agree h [] = refl
  list_any_agree h (x ∷ xs) = cc (h x, list_any_agree h xs)

  pub find-filter : (xs : List X) → find q (filter p xs) ≡ find (λ x. p x && q x) xs
  find-filter [] = refl
  find-filter (x ∷ xs) =
      elim (p x) as
      (λ b. find q (cond b (x ∷ filter p xs) (filter p xs)) ≡ cond (b && q x) (Some x) (find (λ y. p y && q y) xs)) [
        | true ↦ cc (find-filter xs)
        | false ↦ find-filter xs
      ]

-- functions that agree
module _ {X Y : Type 0} (f g : X → Y) where
  pub map_agree : ((x : X) → f x ≡ g x) → (xs : List X) → map f xs ≡ map g xs
  map_agree h [] = refl
  map_agree h (x ∷ xs) = cc (h x, map_agree h xs)

-- an element that is read at a place stands first from there on
pub drop_read : {X : Type 0} (xs : List X) (i : ℕ) (x : X) → i < length xs → x ≡ get_or xs i x
    → drop i xs ≡ x ∷ drop (i + 1) xs
drop_read {X} xs i x low is = cc (drop_more xs i x low, is)

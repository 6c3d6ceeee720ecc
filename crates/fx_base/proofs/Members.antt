-- The items of joined lists, of images, and of those that pass a test.
use Rattle.std.proofs.Common.{ℕ, ◌≡◌, ◌<◌, ◌⊎◌, zero, suc, Bool, true, false, cond, List, [], ◌∷◌, ◌++◌, map, length}
use Rattle.std.proofs.Common.{refl, sym, subst, ap, ◌∙◌, arith, inl, inr}
use Rattle.std.specs.List.{filter, AllByRecursion}
use Rattle.std.specs.Prelude.{Contains, slice_index_or}
use Rattle.fx_base.specs.Members.{Has}

module _ {X : Type 0} where
  pub has-left : (x : X) (xs ys : List X) → Has x xs → Has x (xs ++ ys)
  has-left x [] ys h = absurd h
  has-left x (y ∷ xs) ys (inl e) = inl e
  has-left x (y ∷ xs) ys (inr h) = inr (has-left x xs ys h)

  pub has-right : (x : X) (xs ys : List X) → Has x ys → Has x (xs ++ ys)
  has-right x [] ys h = h
  has-right x (y ∷ xs) ys h = inr (has-right x xs ys h)

  pub has-either : (x : X) (xs ys : List X) → Has x (xs ++ ys) → Has x xs ⊎ Has x ys
  has-either x [] ys h = inr h
  has-either x (y ∷ xs) ys (inl e) = inl (inl e)
  has-either x (y ∷ xs) ys (inr h) = elim (has-either x xs ys h) [ inl l ↦ inl (inr l) | inr r ↦ inr r ]

  pub has-last : (x y : X) (xs : List X) → Has x (xs ++ y ∷ []) → Has x xs ⊎ (x ≡ y)
  has-last x y xs h = elim (has-either x xs (y ∷ []) h) [
    | inl there ↦ inl there
    | inr (inl e) ↦ inr e
    | inr (inr none) ↦ absurd none
  ]

  -- what holds of each item holds of one of them
  pub has-each : (P : X → Type 0) (x : X) (xs : List X) → AllByRecursion P xs → Has x xs → P x
  has-each P x [] all h = absurd h
  has-each P x (y ∷ ys) all (inl e) = subst P (sym e) all.0
  has-each P x (y ∷ ys) all (inr h) = has-each P x ys all.1 h

  pub each-has : (P : X → Type 0) (xs : List X) → ((x : X) → Has x xs → P x) → AllByRecursion P xs
  each-has P [] each = tt
  each-has P (y ∷ ys) each = (each y (inl refl), each-has P ys (λ x h. each x (inr h)))

  pub has-filter : (p : X → Bool) (x : X) (xs : List X) → Has x xs → p x ≡ true → Has x (filter p xs)
  has-filter p x [] h is = absurd h
  has-filter p x (y ∷ ys) (inl e) is = let here : p y ≡ true = cc (e, is) in rw here (inl e)
  has-filter p x (y ∷ ys) (inr h) is =
      let rest = has-filter p x ys h is in
      let go : (b : Bool) → Has x (cond b (y ∷ filter p ys) (filter p ys)) =
      λ b. elim b as (λ b. Has x (cond b (y ∷ filter p ys) (filter p ys))) [ true ↦ inr rest | false ↦ rest ] in
      go (p y)

  pub has-unfilter : (p : X → Bool) (x : X) (xs : List X) → Has x (filter p xs) → Has x xs × (p x ≡ true)
  has-unfilter p x [] h = absurd h
  has-unfilter p x (y ∷ ys) h =
      let go : (b : Bool) → p y ≡ b → Has x (cond b (y ∷ filter p ys) (filter p ys)) → Has x (y ∷ ys) × (p x ≡ true) =
      λ b. elim b as (λ b. p y ≡ b → Has x (cond b (y ∷ filter p ys) (filter p ys)) → Has x (y ∷ ys) × (p x ≡ true)) [
        | true ↦ λ is h. elim h
            [ inl e ↦ (inl e, ap p e ∙ is) | inr r ↦ (let rest = has-unfilter p x ys r in (inr rest.0, rest.1)) ]
        | false ↦ λ is h. (let rest = has-unfilter p x ys h in (inr rest.0, rest.1))
      ] in
      go (p y) refl h

  -- the same by the places of the items
  pub contains-has : (xs : List X) (k : ℕ) (x : X) → k < length xs → slice_index_or xs k x ≡ x → Has x xs
  contains-has [] k x low is = absurd (omega arith)
  contains-has (y ∷ ys) zero x low is = inl (sym is)
  contains-has (y ∷ ys) (suc k) x low is = inr (contains-has ys k x (omega arith) is)

  pub has-contains : (xs : List X) (x : X) → Has x xs → Contains xs x
  has-contains [] x h = absurd h
  has-contains (y ∷ ys) x (inl e) = (zero, omega arith, sym e)
  has-contains (y ∷ ys) x (inr h) = let r = has-contains ys x h in (suc r.0, omega (arith, r.1), r.2)

module _ {X Y : Type 0} (f : X → Y) where
  pub has-map : (x : X) (xs : List X) → Has x xs → Has (f x) (map f xs)
  has-map x [] h = absurd h
  has-map x (y ∷ ys) (inl e) = inl (ap f e)
  has-map x (y ∷ ys) (inr h) = inr (has-map x ys h)

  pub has-unmap : (y : Y) (xs : List X) → Has y (map f xs) → (x : X) × Has x xs × (y ≡ f x)
  has-unmap y [] h = absurd h
  has-unmap y (x ∷ xs) (inl e) = (x, inl refl, e)
  has-unmap y (x ∷ xs) (inr h) = let r = has-unmap y xs h in (r.0, inr r.1, r.2)

-- Values that are made one after another: those of a part of the items are the first values of all.
use Rattle.std.proofs.Common.{◌≡◌, ℕ, ◌+◌, ◌<◌, ◌≤◌, List, [], ◌∷◌, ◌++◌, length, get_or, take, drop}
use Rattle.std.proofs.Common.{refl, sym, ap, ◌∙◌, append_assoc, arith}
use Rattle.std.proofs.lemmas.List.{append-nil, drop_more, get_or_append_left, get_or_past, length-append}
use Rattle.std.proofs.lemmas.List.{length-take-le, take-append-drop}
use Rattle.std.proofs.Math.Seq.{get_or-append_seam}
use Rattle.fx_outputs.specs.Histories.{built, added}

module _ {A B : Type 0} (f : List B → A → B) where
  pub built-append : (done : List B) (xs ys : List A) → built f done (xs ++ ys) ≡ built f (built f done xs) ys
  built-append done [] ys = refl
  built-append done (x ∷ xs) ys = built-append (done ++ f done x ∷ []) xs ys

  pub built-length : (done : List B) (xs : List A) → length (built f done xs) ≡ length done + length xs
  built-length done [] = omega arith
  built-length done (x ∷ xs) =
      omega (arith, length-append done (f done x ∷ []), built-length (done ++ f done x ∷ []) xs)

  -- the values so far stay the first
  pub built-kept : (done : List B) (xs : List A) (j : ℕ) (d : B) → j < length done
      → get_or (built f done xs) j d ≡ get_or done j d
  built-kept done [] j d low = refl
  built-kept done (x ∷ xs) j d low =
      built-kept (done ++ f done x ∷ []) xs j d (omega (arith, length-append done (f done x ∷ [])))
      ∙ get_or_append_left done (f done x ∷ []) d j low

  -- as many values as items
  pub built-as_many : (xs : List A) (k : ℕ) → k ≤ length xs → length (built f [] (take k xs)) ≡ k
  built-as_many xs k within =
      omega (arith, built-length [] (take k xs), length-take-le k xs within)

  built-parts : (xs : List A) (k : ℕ) → built f [] xs ≡ built f (built f [] (take k xs)) (drop k xs)
  built-parts xs k = cc (take-append-drop k xs, built-append [] (take k xs) (drop k xs))

  -- the first k values are those of the first k items
  pub built-take : (xs : List A) (k j : ℕ) (d : B) → k ≤ length xs → j < k
      → get_or (built f [] (take k xs)) j d ≡ get_or (built f [] xs) j d
  built-take xs k j d within low =
      cc (
        built-parts xs k,
        built-kept (built f [] (take k xs)) (drop k xs) j d
            (omega (arith, built-as_many xs k within)),
      )

  -- and no others
  pub built-past : (xs : List A) (k j : ℕ) (d : B) → k ≤ length xs → k ≤ j → get_or (built f [] (take k xs)) j d ≡ d
  built-past xs k j d within high =
      get_or_past _ j d (omega (arith, built-as_many xs k within))

  -- the value of the item at k
  pub built-at : (xs : List A) (k : ℕ) (d : B) (e : A) → k < length xs
      → get_or (built f [] xs) k d ≡ f (built f [] (take k xs)) (get_or xs k e)
  built-at xs k d e low =
      let now : List B = built f [] (take k xs) in
      let x : A = get_or xs k e in
      let many : length now ≡ k = built-as_many xs k (omega arith) in
      let one = length-append now (f now x ∷ []) in
      ap (λ l. get_or l k d) (built-parts xs k ∙ ap (built f now) (drop_more xs k e low))
      ∙ built-kept (now ++ f now x ∷ []) (drop (k + 1) xs) k d (omega arith)
      ∙ ap (λ i. get_or (now ++ f now x ∷ []) i d) (sym many)
      ∙ get_or-append_seam now (f now x) [] d

module _ {A B : Type 0} (f : List A → A → List B) where
  pub added-append : (earlier xs ys : List A)
      → added f earlier (xs ++ ys) ≡ added f earlier xs ++ added f (earlier ++ xs) ys
  added-append earlier [] ys = cc (append-nil earlier)
  added-append earlier (x ∷ xs) ys =
      cc (
        added-append (earlier ++ x ∷ []) xs ys,
        append_assoc earlier (x ∷ []) xs,
        append_assoc (f earlier x)
            (added f (earlier ++ x ∷ []) xs) (added f (earlier ++ x ∷ xs) ys),
      )

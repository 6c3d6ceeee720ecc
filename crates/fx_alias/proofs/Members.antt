-- Places in classes, and the lines of classes.
use Rattle.std.proofs.Common.{ℕ, ◌≡◌, ◌<◌, Bool, true, false, cond, List, [], ◌∷◌, ◌++◌, ◌+◌, length, map, filter, take}
use Rattle.std.proofs.Common.{get_or, refl, sym, append_assoc, append-nil}
use Rattle.std.specs.List.{flat_map}
use Rattle.std.proofs.lemmas.List.{map-append, take_more}
use Rattle.std.proofs.lemmas.List.Elements.{filter-append}
use Rattle.std.proofs.lemmas.Grind.{flat_map-append}

-- the line of one more class, where there is one
pub next_line : (line : List (List ℕ) → List ℕ) (at : List ℕ → List (List ℕ)) (start done now : List ℕ)
    (before more : List (List ℕ)) (b : Bool) (group class : List ℕ)
    → line (at []) ≡ [] → class ≡ cond b [] group
    → done ≡ start ++ flat_map line (map at before) → cond b [] (group ∷ []) ≡ more
    → now ≡ done ++ line (at class) → now ≡ start ++ flat_map line (map at (before ++ more))
next_line line at start done now before more b group class none this e1 is e2 =
    cc (
      append_assoc start (flat_map line (map at before))
          (line (at class)),
      by_test b,
      flat_map-append line (map at before) (map at more),
      map-append at before more,
    )
  where
    by_test : (b : Bool) → line (at (cond b [] group)) ≡ flat_map line (map at (cond b [] (group ∷ [])))
    by_test true = none
    by_test false = sym (append-nil (line (at group)))

-- the line of one more item, where it is kept
pub next_kept : {X : Type 0} (line : X → List ℕ) (p : X → Bool) (xs : List X) (i : ℕ) (x : X) (start done now : List ℕ)
    → i < length xs → get_or xs i x ≡ x
    → done ≡ start ++ flat_map line (filter p (take i xs)) → now ≡ done ++ cond (p x) (line x) []
    → now ≡ start ++ flat_map line (filter p (take (i + 1) xs))
next_kept {X} line p xs i x start done now low is e1 e2 =
    cc (
      append_assoc start (flat_map line (filter p (take i xs)))
          (cond (p x) (line x) []),
      by_test (p x),
      flat_map-append line (filter p (take i xs)) (cond (p x) (x ∷ []) []),
      filter-append p (take i xs) (x ∷ []),
      take_more xs i x low,
    )
  where
    by_test : (b : Bool) → cond b (line x) [] ≡ flat_map line (cond b (x ∷ []) [])
    by_test true = sym (append-nil (line x))
    by_test false = refl

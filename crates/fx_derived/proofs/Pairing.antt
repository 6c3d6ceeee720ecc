-- Each item of one list with each of another.
use Rattle.std.proofs.Common.{ℕ, ◌≡◌, ◌<◌, ◌+◌, ◌*◌, zero, suc, List, [], ◌∷◌, ◌++◌, length, map, take, get_or}
use Rattle.std.proofs.Common.{◌∙◌, arith, append-nil}
use Rattle.std.proofs.lemmas.List.{length-append, length-map, get_or-map, get_or_append_left, get_or-append-add}
use Rattle.std.proofs.lemmas.List.{take_more}
use Rattle.std.proofs.lemmas.Grind.{flat_map-append}
use Rattle.fx_derived.specs.Tables.{pairs}

module _ {X Y Z : Type 0} (pair : X → Y → Z) (ys : List Y) where
  abbrev with_each : X → List Z
  with_each x = map (λ y. pair x y) ys

  -- with one more item
  pub pairs_more : (xs : List X) (i : ℕ) (d : X) → i < length xs
      → pairs pair (take i xs) ys ++ map (λ y. pair (get_or xs i d) y) ys ≡ pairs pair (take (i + 1) xs) ys
  pairs_more xs i d low =
      let x = get_or xs i d in
      cc (append-nil (with_each x), flat_map-append with_each (take i xs) (x ∷ []), take_more xs i d low)

  pub length-pairs : (xs : List X) → length (pairs pair xs ys) ≡ length xs * length ys
  length-pairs [] = omega arith
  length-pairs (x ∷ xs) =
      omega (arith, length-pairs xs, length-map ys (pair x), length-append (with_each x) (pairs pair xs ys))

  -- item i with item j
  pub pair_at : (xs : List X) (i j : ℕ) (a : X) (b : Y) (d : Z) → i < length xs → j < length ys
      → get_or (pairs pair xs ys) (i * length ys + j) d ≡ pair (get_or xs i a) (get_or ys j b)
  pair_at [] i j a b d hi hj = absurd (omega arith)
  pair_at (x ∷ xs) zero j a b d hi hj =
      let e : 0 * length ys + j ≡ j = omega arith in
      let long : j < length (with_each x) = omega (arith, length-map ys (pair x)) in
      rw e (get_or_append_left (with_each x) (pairs pair xs ys) d j long ∙ get_or-map (pair x) ys j b d hj)
  pair_at (x ∷ xs) (suc i) j a b d hi hj =
      let e : suc i * length ys + j ≡ length (with_each x) + (i * length ys + j) =
      omega (arith, length-map ys (pair x)) in
      rw e (get_or-append-add (with_each x) (pairs pair xs ys) (i * length ys + j) d ∙ pair_at xs i j a b d
      (omega arith) hj)

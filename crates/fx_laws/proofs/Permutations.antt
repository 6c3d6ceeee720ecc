-- Each permutation is made of swaps of neighbours.
use Rattle.std.proofs.Common.{ℕ, ◌≡◌, ◌<◌, zero, suc, List, [], ◌∷◌, ◌++◌, map, length, get_or, set, swap}
use Rattle.std.proofs.Common.{IsPermutation, refl, arith}
use Rattle.std.proofs.lemmas.List.Sorted.{IsPermutation-keeps}
use Rattle.fx_designs.specs.Galois.{IsField}
use Rattle.fx_laws.specs.Reorders.{reordered, IsReorderable}
use Rattle.fx_laws.proofs.Space.{AreVectors}
use Rattle.fx_laws.proofs.Follows.{Follows}
use Rattle.fx_laws.proofs.Reorders.{reordered-inside, reordered-append, reorder_follows}

-- the first element against the one at j after it
first : {X : Type 0} (j : ℕ) (x : X) (xs : List X) (d : X) → j < length xs
    → (ks : List ℕ) × (reordered ks (x ∷ xs) ≡ get_or xs j d ∷ set xs j x)
first j x [] d h = absurd (omega arith)
first zero x (y ∷ ys) d h = (0 ∷ [], refl)
first (suc j) x (y ∷ ys) d h =
    let r = first j x ys d (omega arith) in (
      0 ∷ (map (λ k. suc k) r.0 ++ 0 ∷ []),
      cc (reordered-append (map (λ k. suc k) r.0) (0 ∷ []) (y ∷ x ∷ ys), reordered-inside y r.0 (x ∷ ys), r.1),
    )

exchange : {X : Type 0} (i j : ℕ) (l : List X) (d : X) → i < length l → j < length l
    → (ks : List ℕ) × (reordered ks l ≡ set (set l i (get_or l j d)) j (get_or l i d))
exchange i j [] d h k = absurd (omega arith)
exchange zero zero (x ∷ xs) d h k = ([], refl)
exchange zero (suc j) (x ∷ xs) d h k = first j x xs d (omega arith)
exchange (suc i) zero (x ∷ xs) d h k = first i x xs d (omega arith)
exchange (suc i) (suc j) (x ∷ xs) d h k =
    let r = exchange i j xs d (omega arith) (omega arith) in
    (map (λ k. suc k) r.0, cc (reordered-inside x r.0 xs, r.1))

swapped_by : {X : Type 0} (l : List X) (i j : ℕ) → i < length l → j < length l
    → (ks : List ℕ) × (reordered ks l ≡ swap l i j)
swapped_by [] i j h k = ([], refl)
swapped_by (x ∷ xs) i j h k = exchange i j (x ∷ xs) x h k

pub by_neighbours : {X : Type 0} (xs ys : List X) → IsPermutation xs ys → (ks : List ℕ) × (reordered ks xs ≡ ys)
by_neighbours xs ys h = IsPermutation-keeps xs (λ l. (ks : List ℕ) × (reordered ks xs ≡ l)) ([], refl)
    (λ l i j hi hj at.
    (let r = swapped_by l i j hi hj in (at.0 ++ r.0, cc (reordered-append at.0 r.0 xs, at.1, r.1))))
    ys h

-- and so does each other order of the factors, in std's words
pub permutation_follows : (q m : ℕ) (f : IsField q) (Forbidden : List ℕ → List ℕ → Type 0) (xs zs ys : List (List ℕ))
    → IsReorderable q Forbidden → AreVectors q m xs → AreVectors q m ys → IsPermutation xs zs
    → Follows q m Forbidden xs ys zs ys
permutation_follows q m f Forbidden xs zs ys free hx hy h =
    let r = by_neighbours xs zs h in
    rw r.1 at (reorder_follows q m f Forbidden r.0 xs ys free hx hy)

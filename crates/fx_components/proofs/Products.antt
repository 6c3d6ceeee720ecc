-- The ends of products and of listings.
use Rattle.std.proofs.Common.{ℕ, ◌≡◌, ◌<◌, zero, suc, List, [], ◌∷◌, ◌++◌, map, length, drop, get_or, refl}
use Rattle.std.proofs.Common.{append_assoc, arith}
use Rattle.std.specs.Prelude.{◌==◌, if◌then◌else◌}
use Rattle.fx_components.specs.Products.{term, terms}

-- one piece after another
pub behind : (old first now piece all : List ℕ) → now ≡ old ++ first → first ++ piece ≡ all → now ++ piece ≡ old ++ all
behind old first now piece all e h = cc (append_assoc old first piece)

-- the terms from an entry on
pub next_entry : {X : Type 0} (name_of : X → List ℕ) (xs : List X) (d : X) (u : List ℕ) (i : ℕ) → i < length xs
    → i < length u
    → terms (drop i (map name_of xs)) (drop i u)
    ≡ (if get_or u i 0 == 0
    then terms (drop (suc i) (map name_of xs)) (drop (suc i) u)
    else term (name_of (get_or xs i d)) (get_or u i 0) ∷ terms (drop (suc i) (map name_of xs)) (drop (suc i) u))
next_entry name_of [] d u i h k = absurd (omega arith)
next_entry name_of (x ∷ xs) d [] i h k = absurd (omega arith)
next_entry name_of (x ∷ xs) d (c ∷ u) zero h k = refl
next_entry name_of (x ∷ xs) d (c ∷ u) (suc i) h k = next_entry name_of xs d u i (omega arith) (omega arith)

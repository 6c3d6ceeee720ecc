-- Products of factors as they are printed, and a section without lines.
use Rattle.std.proofs.Common.{◌≡◌, ℕ, List, [], ◌∷◌, refl}
use Rattle.std.specs.Prelude.{codes}
use Rattle.std.specs.Fmt.{digits}
use Rattle.fx_components.specs.Lines.{or_none}
use Rattle.fx_components.specs.Products.{product, term}

abbrev names : List (List ℕ)
names = codes "A" ∷ codes "Day" ∷ codes "x10" ∷ []

-- a coefficient stands where it is not 1
terms :
    (term (codes "A") 1 ≡ codes "A")
    × (term (codes "A") 2 ≡ codes "A^2")
    × (term (codes "x10") 10 ≡ codes "x10^10")
unfolding digits
terms = (refl, refl, refl)

-- the factors in their order, those with 0 left out
products :
    (product names (0 ∷ 0 ∷ 0 ∷ []) ≡ codes "0")
    × (product names (0 ∷ 1 ∷ 0 ∷ []) ≡ codes "Day")
    × (product names (1 ∷ 0 ∷ 2 ∷ []) ≡ codes "A*x10^2")
    × (product names (2 ∷ 1 ∷ 1 ∷ []) ≡ codes "A^2*Day*x10")
    × (product [] [] ≡ codes "0")
unfolding digits
products = (refl, refl, refl, refl, refl)

sections : (or_none [] ≡ codes "  none\n") × (or_none (codes "  A = B*C\n") ≡ codes "  A = B*C\n")
sections = (refl, refl)

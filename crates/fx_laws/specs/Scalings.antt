-- Rows scaled by nonzero codes.
use Rattle.std.specs.Prelude.{ℕ, ◌≡◌, ◌<◌, List, [], ◌∷◌, length}
use Rattle.std.specs.List.{AllByRecursion}
use Rattle.fx_designs.specs.Galois.{mul}
use Rattle.fx_designs.specs.Vectors.{scale, IsVector}

-- each is a nonzero code
abbrev pub AreScalars : ℕ → List ℕ → Type 0
AreScalars q cs = AllByRecursion (λ c. (0 < c) × (c < q)) cs

-- each row times the scalar at its place
abbrev pub scaled : ℕ → List ℕ → List (List ℕ) → List (List ℕ)
scaled q [] rows = []
scaled q (c ∷ cs) [] = []
scaled q (c ∷ cs) (r ∷ rows) = scale q c r ∷ scaled q cs rows

-- each entry times the scalar at its place
abbrev pub times : ℕ → List ℕ → List ℕ → List ℕ
times q [] u = []
times q (c ∷ cs) [] = []
times q (c ∷ cs) (a ∷ u) = mul q c a ∷ times q cs u

-- what is forbidden stays so when entries are multiplied by nonzero codes
abbrev pub IsScalable : ℕ → ℕ → ℕ → (List ℕ → List ℕ → Type 0) → Type 0
IsScalable q s t Forbidden =
    (f b cs ds : List ℕ) → IsVector q s f → IsVector q t b → AreScalars q cs → AreScalars q ds → length cs ≡ s
    → length ds ≡ t → Forbidden f b → Forbidden (times q cs f) (times q ds b)

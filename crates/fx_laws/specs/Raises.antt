-- A vector added to a row that the rows before it span; what is allowed; how many words there are.
use Rattle.std.specs.Prelude.{ℕ, ◌≡◌, ◌==◌, ◌&&◌, ◌⊎◌, List, [], ◌∷◌, ◌++◌, length, count_by}
use Rattle.fx_designs.specs.Galois.{number}
use Rattle.fx_designs.specs.Vectors.{plus, zeros, weight, combination, IsVector}
use Rattle.fx_designs.specs.Runs.{points}
use Rattle.fx_laws.specs.Spans.{InSpan}

-- w is added to one row, which the rows before it span
abbrev pub RaisesAt : ℕ → ℕ → List ℕ → List (List ℕ) → List (List ℕ) → List (List ℕ) → Type 0
RaisesAt q m w bs [] rows = ⊥
RaisesAt q m w bs (x ∷ xs) [] = ⊥
RaisesAt q m w bs (x ∷ xs) (y ∷ ys) =
    ((x ≡ y) × RaisesAt q m w (bs ++ x ∷ []) xs ys) ⊎ (InSpan q m bs x × (y ≡ plus q x w) × (xs ≡ ys))

-- w is added to one row
abbrev pub RaisedBy : ℕ → List ℕ → List (List ℕ) → List (List ℕ) → Type 0
RaisedBy q w [] rows = ⊥
RaisedBy q w (x ∷ xs) [] = ⊥
RaisedBy q w (x ∷ xs) (y ∷ ys) = ((x ≡ y) × RaisedBy q w xs ys) ⊎ ((y ≡ plus q x w) × (xs ≡ ys))

-- no forbidden vector (f, b) has zero sum on the factor rows and the block rows
pub record IsAllowed (q m : ℕ) (Forbidden : List ℕ → List ℕ → Type 0) (factors blocks : List (List ℕ)) : Type 0 where
  pub none : (f b : List ℕ) → IsVector q (length factors) f → IsVector q (length blocks) b → Forbidden f b
      → plus q (combination q m f factors) (combination q m b blocks) ≡ zeros m → ⊥

-- the words of weight k
unfoldable pub words : ℕ → ℕ → List (List ℕ) → ℕ → ℕ
words q m factors k =
    count_by (λ f. (number q (combination q m f factors) == 0) && (weight f == k)) (points q (length factors))

-- what the raise of the rank asks of the forbidden vectors: with a factor part and a block part that are not 0, each
-- block part is forbidden
abbrev pub IsBlind : ℕ → ℕ → ℕ → (List ℕ → List ℕ → Type 0) → Type 0
IsBlind q s t Forbidden =
    (f b : List ℕ) → Forbidden f b
    → (b ≡ zeros t) ⊎ ((f ≡ zeros s) ⊎ ((other : List ℕ) → IsVector q t other → Forbidden f other))

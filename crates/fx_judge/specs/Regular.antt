-- Regular plans: the distinct rows are a coset of a linear subspace, and each comes equally often.
use Rattle.std.specs.Prelude.{ℕ, ◌==◌, ◌&&◌, Bool, List, [], ◌∷◌, map, count_by}
use Rattle.std.specs.List.{list_all, list_any}
use Rattle.fx_designs.specs.Galois.{codes_of}
use Rattle.fx_designs.specs.Vectors.{minus, plus, same, scale}

-- the differences of the rows from the first
abbrev pub row_differences : ℕ → List (List ℕ) → List (List ℕ)
row_differences q [] = []
row_differences q (first ∷ rows) = map (λ x. minus q x first) (first ∷ rows)

-- whether x is among the vectors
abbrev pub is_one_of : List (List ℕ) → List ℕ → Bool
is_one_of vectors x = list_any (same x) vectors

-- with u and v each u + c v is among the vectors: they are a linear subspace
unfoldable pub are_closed : ℕ → List (List ℕ) → Bool
are_closed q vectors =
    list_all (λ u. list_all (λ v. list_all (λ c. is_one_of vectors (plus q u (scale q c v))) (codes_of q)) vectors)
    vectors

-- each of the vectors comes equally often
unfoldable pub are_even : List (List ℕ) → Bool
are_even vectors =
    list_all (λ u. list_all (λ v. count_by (same u) vectors == count_by (same v) vectors) vectors) vectors

-- the differences from the first row are a linear subspace, and each comes equally often
abbrev pub is_regular_plan : ℕ → List (List ℕ) → Bool
is_regular_plan q rows = are_closed q (row_differences q rows) && are_even (row_differences q rows)

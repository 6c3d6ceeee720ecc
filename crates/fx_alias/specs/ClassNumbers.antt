-- Components by their places in a list, and their class numbers.
use Rattle.std.specs.Prelude.{ℕ, List, [], map, slice_index_or}
use Rattle.fx_designs.specs.Vectors.{combination, vectors_of}
use Rattle.fx_vectors.specs.Matrix.{MatrixView}
use Rattle.fx_alias.specs.Classes.{class_number}

-- the class number of a component under a rule matrix
abbrev pub number_by : MatrixView → List ℕ → ℕ
number_by matrix u =
    class_number matrix.shape.q
    (combination matrix.shape.q matrix.shape.m u (vectors_of matrix.shape.q matrix.shape.m matrix.rows))

-- the components at these places, counted from 0
abbrev pub at_places : List (List ℕ) → List ℕ → List (List ℕ)
at_places components places = map (λ i. slice_index_or components i []) places

-- How many words of a design are confounded with blocks (Sun, Wu and Chen 1997).
use Rattle.std.specs.Prelude.{ℕ, ◌==◌, ◌+◌, ◌-◌, ◌/◌, ◌&&◌, List, map, take, count_by}
use Rattle.std.specs.List.{range_with_len}
use Rattle.fx_designs.specs.Vectors.{weight}
use Rattle.fx_designs.specs.Runs.{points}
use Rattle.fx_runs.specs.Runs.{design_of}
use Rattle.fx_vectors.specs.declared.shape.Shape.{Shape}
use Rattle.fx_vectors.specs.Matrix.{MatrixView}
use Rattle.fx_alias.specs.Blocked.{is_blocked}

-- B_1 to B_s: how many vectors of weight k over the factors are constant inside each block and not over all runs,
-- a vector and its nonzero multiples once
unfoldable pub block_words_of : MatrixView → List ℕ
block_words_of matrix =
    map (λ k.
    count_by (λ u. (weight u == k) && is_blocked (design_of matrix) u) (points matrix.shape.q matrix.shape.s)
    / (matrix.shape.q - 1)) (range_with_len 1 matrix.shape.s)

-- The words are counted by their sums, in a tally of the factor rules with room for one row more.

-- the shape with one factor more, and without block factors
abbrev pub with_room : Shape → Shape
with_room shape = record { q = shape.q; m = shape.m; s = shape.s + 1; t = 0 }

-- the factor rules of a matrix, in that shape
abbrev pub factors_of : MatrixView → MatrixView
factors_of matrix = record { shape = with_room matrix.shape; rows = take matrix.shape.s matrix.rows }

-- The points that the block rules of a matrix span, which decide what is confounded with blocks.
use Rattle.std.specs.Prelude.{ℕ, ◌≡◌, ◌<◌, ◌^◌, true, List, drop}
use Rattle.fx_designs.specs.Galois.{digits, number}
use Rattle.fx_designs.specs.Vectors.{IsVector, combination, vectors_of}
use Rattle.fx_designs.specs.Runs.{is_constant_in_blocks}
use Rattle.fx_points.specs.Points.{PointsView, has}
use Rattle.fx_runs.specs.Runs.{design_of}
use Rattle.fx_vectors.specs.Matrix.{MatrixView}

-- a set of points that has the sum of a vector over the factors exactly where the vector is constant inside each block
pub record IsBlockSpan (matrix : MatrixView) (set : PointsView) : Type 0 where
  pub decides : (u : List ℕ) → IsVector matrix.shape.q matrix.shape.s u
      → is_constant_in_blocks matrix.shape.q matrix.shape.s (matrix.shape.q ^ matrix.shape.t) u (design_of matrix).rows
      ≡ has set
      (number matrix.shape.q
      (combination matrix.shape.q matrix.shape.m u (vectors_of matrix.shape.q matrix.shape.m matrix.rows)))

-- the number of the sum of the block rules, each times its code of a number of t codes
abbrev pub block_sum : MatrixView → ℕ → ℕ
block_sum matrix place =
    let q = matrix.shape.q in
    number q (combination q matrix.shape.m (digits q matrix.shape.t place)
    (vectors_of q matrix.shape.m (drop matrix.shape.s matrix.rows)))

-- a set of points that has just the sums for the first k numbers
pub record HasSums (matrix : MatrixView) (set : PointsView) (k : ℕ) : Type 0 where
  pub only : (n : ℕ) → n < 1024 → has set n ≡ true → (place : ℕ) × (place < k) × (block_sum matrix place ≡ n)
  pub each : (place : ℕ) → place < k → has set (block_sum matrix place) ≡ true

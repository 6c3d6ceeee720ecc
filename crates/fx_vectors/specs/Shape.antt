-- Shapes, and the limits within which designs are looked for.
use Rattle.std.specs.Prelude.{◌<◌, ◌≤◌, ◌^◌, IsTrue}
use Rattle.fx_designs.specs.Galois.{is_order}
use Rattle.fx_designs.specs.Problems.{Dimensions}
use Rattle.fx_vectors.specs.declared.shape.Shape.{Shape}
use Rattle.fx_vectors.specs.declared.shape.TheConstants.{MOST_FACTORS, MOST_FACTORS_IN_BLOCKS}
use Rattle.fx_vectors.specs.declared.shape.TheConstants.{MOST_FACTORS_OF_MANY_LEVELS}

-- the dimensions of a shape
abbrev pub dimensions_of : Shape → Dimensions
dimensions_of shape = record { q = shape.q; m = shape.m; s = shape.s; t = shape.t }

-- a shape within the limits
pub record IsShape (shape : Shape) : Type 0 where
  pub order : IsTrue (is_order shape.q)
  pub some_indexes : 1 ≤ shape.m
  pub runs : shape.q ^ shape.m ≤ 1024
  pub some_factors : 1 ≤ shape.s
  pub factors : shape.s ≤ MOST_FACTORS
  pub factors_of_many_levels : 3 < shape.q → shape.s ≤ MOST_FACTORS_OF_MANY_LEVELS
  pub block_factors : shape.t ≤ 10
  pub factors_in_blocks : 0 < shape.t → shape.s ≤ MOST_FACTORS_IN_BLOCKS

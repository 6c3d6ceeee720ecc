-- Prefixes of designs, and what is kept of each.
use Rattle.std.specs.Prelude.{ℕ, ◌≡◌, ◌<◌, ◌≤◌, ◌+◌, ◌&&◌, not, Bool, List, length, take, slice_index, slice_index_or}
use Rattle.fx_designs.specs.Galois.{digits}
use Rattle.fx_designs.specs.Vectors.{is_normal}
use Rattle.fx_designs.specs.Problems.{Dimensions}
use Rattle.fx_designs.specs.Canonical.{is_unit}
use Rattle.fx_vectors.specs.declared.shape.Shape.{Shape}
use Rattle.fx_vectors.specs.Shape.{dimensions_of}
use Rattle.fx_vectors.specs.Matrix.{MatrixView}
use Rattle.fx_points.specs.Sums.{SumsView}
use Rattle.fx_strata.specs.Stages as stages
use Rattle.fx_table_book.specs.declared.base.Base.{Base}
use Rattle.fx_table_check.specs.declared.stage.Stage.{Stage}
use Rattle.fx_table_book.specs.Tables.{strata_of, shape_of, IsBase}
use Rattle.fx_table_check.specs.Counts.{cosets, confounded_at}

-- what clauses see of a prefix
pub record PrefixView : Type 0 where
  pub base : Base
  pub rows : List ℕ

-- the tallies are of the rows, and of the rows modulo the base; the confounded words of the inside factors
-- are noted once these are there
pub record IsPrefix (base : Base) (rows modulo : MatrixView) (noted : List ℕ) (others : Shape)
    (sums : SumsView) : Type 0 where
  pub valid : IsBase base
  pub shape : rows.shape ≡ shape_of base
  pub coset_shape : modulo.shape ≡ shape_of base
  pub others_shape : others ≡ shape_of base
  pub sums_are : sums ≡ record { q = base.q; m = base.m }
  pub cosets : modulo.rows ≡ cosets (strata_of base) rows.rows
  pub few : length rows.rows ≤ base.w + base.n
  pub inside : (i : ℕ) → i < base.w + base.n → base.w ≤ length rows.rows
      → slice_index noted i ≡ confounded_at (strata_of base) (take base.w rows.rows) i

-- a factor row behind the unit vectors is normal, and no unit vector itself
abbrev pub is_later : Dimensions → ℕ → Bool
is_later d r = is_normal (digits d.q d.m r) && not (is_unit d r)

-- whether each row below n is normal and no unit vector
pub record AreOthers (shape : Shape) (n : ℕ) (known : List Bool) : Type 0 where
  pub len : length known ≡ n
  pub are : (r : ℕ) (d : Bool) → r < n → slice_index_or known r d ≡ is_later (dimensions_of shape) r

abbrev pub stage_of : Stage → stages.Stage
stage_of x = record { first_unit = x.first_unit; units = x.units; begin = x.begin; end = x.end }

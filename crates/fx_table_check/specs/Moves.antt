-- What a change makes of the rows of a stage.
use Rattle.std.specs.Prelude.{ℕ, ◌≡◌, List}
use Rattle.fx_strata.specs.Designs.{Strata}
use Rattle.fx_strata.specs.Canonical.{units}
use Rattle.fx_strata.specs.Images.{moved_rows}
use Rattle.fx_table_check.specs.declared.moved.Moved.{Moved}

-- the images of so many unit vectors, and of other rows
pub record AreMoved (x : Strata) (change : List ℕ) (from len : ℕ) (others : List ℕ) (images : Moved) : Type 0 where
  pub unit_rows : images.units.items ≡ moved_rows x change (units x.q from len)
  pub rows : images.rows.items ≡ moved_rows x change others

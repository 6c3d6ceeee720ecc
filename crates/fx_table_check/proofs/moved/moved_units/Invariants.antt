use Rattle.std.proofs.Common.{◌≡◌, length}
use Rattle.fx_strata.specs.Canonical.{units}
use Rattle.fx_strata.specs.Images.{moved_rows}
use Rattle.fx_table_book.specs.Tables.{strata_of}
use Rattle.fx_table_check.proofs.moved.moved_units.Given as goal

abbrev pub invariant-loop-i : goal.invariant-loop-i
invariant-loop-i l = record {
  images : l.images.items ≡ moved_rows (strata_of l.base) l.change (units l.base.q l.from l.i);
  len : length l.images.items ≡ l.i;
}

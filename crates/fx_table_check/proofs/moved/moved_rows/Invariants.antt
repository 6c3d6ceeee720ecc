use Rattle.std.proofs.Common.{◌≡◌, take}
use Rattle.fx_strata.specs.Images.{moved_rows}
use Rattle.fx_table_book.specs.Tables.{strata_of}
use Rattle.fx_table_check.proofs.moved.moved_rows.Given as goal

abbrev pub invariant-loop-row : goal.invariant-loop-row
invariant-loop-row l = l.images.items ≡ moved_rows (strata_of l.base) l.change (take l.row-index l.rows)

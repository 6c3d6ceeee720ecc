use Rattle.std.proofs.Common.{◌≡◌, take}
use Rattle.fx_strata.specs.Images.{moved_rows}
use Rattle.fx_table_book.specs.Tables.{strata_of}
use Rattle.fx_table_rules.specs.Rules.{rule_shape}
use Rattle.fx_table_rules.proofs.rules.changed.Given as goal

abbrev pub invariant-loop-row : goal.invariant-loop-row
invariant-loop-row l =
    l.matrix
    ≡ record { shape = rule_shape l.fn.base; rows = moved_rows (strata_of l.fn.base) l.forms (take l.row-index l.rows) }

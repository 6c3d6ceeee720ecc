use Rattle.std.proofs.Common.{◌≡◌, take, true}
use Rattle.std.specs.List.{list_all}
use Rattle.fx_table_lines.specs.Listing.{is_unit}
use Rattle.fx_table_lines.proofs.rules.are_units.Given as goal

abbrev pub invariant-loop-k : goal.invariant-loop-k
invariant-loop-k l =
    list_all (is_unit l.matrix.shape.q l.matrix.shape.m) (take l.k l.matrix.rows) ≡ true

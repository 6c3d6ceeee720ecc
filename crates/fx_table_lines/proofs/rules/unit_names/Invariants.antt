use Rattle.std.proofs.Common.{◌≡◌, ◌^◌, map}
use Rattle.std.specs.List.{range_with_len}
use Rattle.fx_table_lines.specs.Listing.{place_of, row_name}
use Rattle.fx_table_lines.proofs.rules.unit_names.Given as goal

abbrev pub invariant-loop-j : goal.invariant-loop-j
invariant-loop-j l =
    l.names
    ≡ map (λ j. row_name l.matrix.shape.s (place_of (l.matrix.shape.q ^ j) l.matrix.rows)) (range_with_len 0 l.j)

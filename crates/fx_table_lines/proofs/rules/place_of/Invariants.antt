use Rattle.std.proofs.Common.{◌≡◌, ◌+◌, ◌^◌, drop}
use Rattle.fx_table_lines.specs.Listing.{place_of}
use Rattle.fx_table_lines.proofs.rules.place_of.Given as goal

abbrev pub invariant-loop-k : goal.invariant-loop-k
invariant-loop-k l =
    l.k + place_of (l.matrix.shape.q ^ l.j) (drop l.k l.matrix.rows)
    ≡ place_of (l.matrix.shape.q ^ l.j) l.matrix.rows

use Rattle.std.proofs.Common.{◌≡◌, ◌≤◌, drop, length}
use Rattle.fx_table_book.specs.Tables.{parts_of}
use Rattle.fx_table_lines.specs.Figures.{are_unclear, entry_of}
use Rattle.fx_table_lines.proofs.figures.unclear_in.Given as goal

abbrev pub invariant-loop-i : goal.invariant-loop-i
invariant-loop-i l =
    (l.i ≤ length l.key)
    × (entry_of are_unclear (parts_of (drop l.i l.parts)) (drop l.i l.key)
    ≡ entry_of are_unclear (parts_of l.parts) l.key)

use Rattle.std.proofs.Common.{◌≡◌, ◌≤◌, drop, length}
use Rattle.fx_table_book.specs.Tables.{parts_of}
use Rattle.fx_table_lines.specs.Figures.{words_in}
use Rattle.fx_table_lines.proofs.figures.words_in.Given as goal

abbrev pub invariant-loop-i : goal.invariant-loop-i
invariant-loop-i l =
    (l.i ≤ length l.key)
    × (words_in (parts_of (drop l.i l.parts)) (drop l.i l.key) l.confounded l.weight
    ≡ words_in (parts_of l.parts) l.key l.confounded l.weight)

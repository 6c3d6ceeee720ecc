use Rattle.std.proofs.Common.{◌≡◌, ◌+◌, ◌-◌, ◌++◌}
use Rattle.fx_table_book.specs.Tables.{parts_of}
use Rattle.fx_table_lines.specs.Figures.{counts_text}
use Rattle.fx_table_lines.proofs.figures.put_counts.Given as goal

abbrev pub invariant-loop-k : goal.invariant-loop-k
invariant-loop-k l =
    l.out ++ counts_text (parts_of l.parts) l.key l.confounded l.k (l.factors + 1 - l.k)
    ≡ l.fn.out ++ counts_text (parts_of l.parts) l.key l.confounded 1 l.factors

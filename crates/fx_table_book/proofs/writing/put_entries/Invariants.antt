use Rattle.std.proofs.Common.{◌≡◌, ◌++◌, take}
use Rattle.fx_table_book.specs.Tables.{entries_of}
use Rattle.fx_table_book.specs.Texts.{entries_text}
use Rattle.fx_table_book.proofs.writing.put_entries.Given as goal

abbrev pub invariant-loop-i : goal.invariant-loop-i
invariant-loop-i l = l.out ≡ l.fn.out ++ entries_text (entries_of (take l.i l.entries))

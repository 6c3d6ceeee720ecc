use Rattle.std.proofs.Common.{◌≡◌, ◌≤◌, ◌-◌, ◌+◌, drop, length, All}
use Rattle.fx_book.specs.Parts.{split}
use Rattle.fx_table_book.specs.Tables.{IsSmall, entries_of}
use Rattle.fx_table_book.specs.Texts.{entries}
use Rattle.fx_table_book.proofs.Lines.{onto}
use Rattle.fx_table_book.proofs.reading.read_entries.Given as goal

abbrev pub invariant-loop-at : goal.invariant-loop-at
invariant-loop-at l = record {
  within : l.at ≤ length l.bytes;
  few : length l.entries ≤ l.at;
  valid : All (IsSmall l.base) l.entries;
  line : l.line ≤ l.at + 5;
  so_far : entries l.base 5 (split 10 (drop l.from l.bytes))
      ≡ onto (entries_of l.entries) (entries l.base l.line (split 10 (drop l.at l.bytes)));
}

abbrev pub decreases-loop-at : goal.decreases-loop-at
decreases-loop-at l = length l.bytes - l.at

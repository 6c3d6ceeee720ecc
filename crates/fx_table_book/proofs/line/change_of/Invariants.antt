use Rattle.std.proofs.Common.{◌≡◌, ◌<◌, take, All}
use Rattle.fx_table_book.proofs.line.change_of.Given as goal

abbrev pub invariant-loop-number : goal.invariant-loop-number
invariant-loop-number l = record {
  same : l.change.items ≡ take l.number-index l.numbers;
  below : All (λ a. a < l.runs) l.change.items;
}

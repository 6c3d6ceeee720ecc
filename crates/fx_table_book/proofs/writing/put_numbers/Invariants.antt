use Rattle.std.proofs.Common.{◌≡◌, ◌++◌, take}
use Rattle.fx_book.specs.Writing.{spaced}
use Rattle.fx_table_book.proofs.writing.put_numbers.Given as goal

abbrev pub invariant-loop-n : goal.invariant-loop-n
invariant-loop-n l = l.out ≡ l.fn.out ++ spaced (take l.n-index l.numbers)

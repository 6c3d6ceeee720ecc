use Rattle.std.proofs.Common.{◌≡◌, take}
use Rattle.fx_table_book.specs.Tables.{multiplied}
use Rattle.fx_table_check.proofs.goal.multiplied.Given as goal

abbrev pub invariant-loop-a : goal.invariant-loop-a
invariant-loop-a l = l.beat ≡ multiplied l.q (take l.a-index l.key)

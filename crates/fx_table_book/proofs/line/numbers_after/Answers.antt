use Rattle.std.proofs.Common.{arith}
use Rattle.fx_table_book.proofs.LineParts.{one_too_many}
use Rattle.fx_table_book.proofs.line.numbers_after.Goals as goal

pub returns-then-len-count-clause-read : goal.returns-then-len-count-clause-read
returns-then-len-count-clause-read c =
    cc (
      c.loop-end.invariant.so_far,
      one_too_many c.args.count c.loop-end.numbers.items c.args.line.now c.loop-end.end
          (omega arith) c.loop-end-test.true,
    )

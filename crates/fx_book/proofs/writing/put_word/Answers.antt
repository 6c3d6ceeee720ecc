use Rattle.std.proofs.Common.{◌+◌, ◌≤◌, length, ap, arith, length-append}
use Rattle.fx_book.proofs.Numbers.{length-decimal_before}
use Rattle.fx_book.proofs.writing.put_word.Goals as goal
use Rattle.fx_book.proofs.writing.put_word.Goals.{After-put_number}

length_after : (c : After-put_number) → length c.put_number.new.self ≤ 39 + length c.args.text.now
length_after c =
    rw c.put_number.ensures
    (length-decimal_before 39 c.args.word c.args.text.now (omega arith) (omega arith) (omega arith))

pub put_number-requires : goal.put_number-requires
put_number-requires c =
    omega (
      arith,
      simp length-append at
          (length-decimal_before 39 c.args.word c.args.text.now (omega arith) (omega arith) (omega arith)),
    )

pub put-requires : goal.put-requires
put-requires c = omega (arith, length_after (goal.at.put-requires c).After-put_number)

pub put-requires-else-weight-le-SHORT : goal.put-requires-else-weight-le-SHORT
put-requires-else-weight-le-SHORT c =
    omega (
      arith,
      ap length c.put.ensures,
      length_after
          (goal.at.put-requires-else-weight-le-SHORT c).After-put_number,
    )

pub returns-else-weight-le-SHORT-clause-short : goal.returns-else-weight-le-SHORT-clause-short
returns-else-weight-le-SHORT-clause-short c =
    omega (
      arith,
      ap length c.put.ensures,
      ap length c.put-else-weight-le-SHORT.ensures,
      length_after
          (goal.at.returns-else-weight-le-SHORT-clause-short c).After-put_number,
    )

use Rattle.std.proofs.Common.{◌+◌, ◌≤◌, [], length, ap, arith, length-append}
use Rattle.fx_laws.proofs.Weights.{weight-some}
use Rattle.fx_book.proofs.Numbers.{length-decimal_before}
use Rattle.fx_book.proofs.writing.put_entry_of.Goals as goal
use Rattle.fx_book.proofs.writing.put_entry_of.Goals.{After-put_number, After-put_number-2}

code_length : (c : After-put_number) → length c.put_number.new.self ≤ 1 + length c.args.text.now
code_length c =
    rw c.put_number.ensures
    (length-decimal_before 1 c.from.result c.args.text.now (omega arith)
    (omega arith) (omega arith))

place_length : (c : After-put_number-2) → length c.put_number-2.new.self ≤ 2 + length c.put.new.self
place_length c =
    rw c.put_number-2.ensures
    (length-decimal_before 2 c.args.place c.put.new.self (omega arith) (omega arith)
    (omega arith))

pub put_number-requires : goal.put_number-requires
put_number-requires c =
    omega (
      arith,
      simp length-append at
          (length-decimal_before 1 c.from.result c.args.text.now (omega arith)
          (omega arith) (omega arith)),
    )

pub put-requires : goal.put-requires
put-requires c = omega (arith, code_length (goal.at.put-requires c).After-put_number)

pub put_number-requires-2 : goal.put_number-requires-2
put_number-requires-2 c =
    omega (
      arith,
      ap length c.put.ensures,
      code_length
          (goal.at.put_number-requires-2 c).After-put_number,
      simp length-append at
          (length-decimal_before 2 c.args.place c.put.new.self (omega arith) (omega arith)
          (omega arith)),
    )

pub put-requires-2 : goal.put-requires-2
put-requires-2 c =
    omega (
      arith,
      ap length c.put.ensures,
      code_length (goal.at.put-requires-2 c).After-put_number,
      place_length
          (goal.at.put-requires-2 c).After-put_number-2,
    )

pub returns-clause-short : goal.returns-clause-short
returns-clause-short c =
    omega (
      arith,
      ap length c.put.ensures,
      ap length c.put-2.ensures,
      code_length
          (goal.at.returns-clause-short c).After-put_number,
      place_length
          (goal.at.returns-clause-short c).After-put_number-2,
      weight-some c.args.code [] (omega arith),
    )

use Rattle.std.proofs.Common.{◌<◌, get_or, length, arith}
use Rattle.std.proofs.lemmas.List.{get_or_default}
use Rattle.fx_book.specs.Writing.{spaced}
use Rattle.fx_base.proofs.Held.{at_err, one_more, in_item}
use Rattle.fx_book.proofs.Lines.{spaced-append}
use Rattle.fx_table_book.proofs.writing.put_numbers.Goals as goal

pub loop-n-preserved : goal.loop-n-preserved
loop-n-preserved c =
    let n = get_or c.args.numbers.now c.loop-n.n-index 0 in
    let there : c.loop-n.n-index < length c.args.numbers.now = omega arith in
    one_more spaced spaced-append c.args.numbers.now c.loop-n.n-index n c.args.out.now c.loop-n.out
    c.put_after_blank.new.out there (get_or_default c.args.numbers.now c.loop-n.n-index 0 n there) c.loop-n.invariant
    (rw c.from.ensures at c.in_ok-put_after_blank.ensures.ok)

pub returns-in_err-put_after_blank-clause-err : goal.returns-in_err-put_after_blank-clause-err
returns-in_err-put_after_blank-clause-err c =
    let n = get_or c.args.numbers.now c.loop-n.n-index 0 in
    let there : c.loop-n.n-index < length c.args.numbers.now = omega arith in
    at_err c.from_residual.result
    (in_item spaced spaced-append c.args.numbers.now c.loop-n.n-index n c.args.out.now c.loop-n.out
    c.put_after_blank.new.out there (get_or_default c.args.numbers.now c.loop-n.n-index 0 n there)
    c.loop-n.invariant (rw c.from.ensures at c.in_err-put_after_blank.ensures.err))

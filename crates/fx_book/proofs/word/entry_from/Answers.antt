use Rattle.std.proofs.Common.{◌+◌, ◌-◌, drop, take, arith}
use Rattle.fx_book.proofs.Splits.{some_parts}
use Rattle.fx_book.proofs.Lines.{no_entry}
use Rattle.fx_book.proofs.word.entry_from.Goals as goal

pub returns-then-end-part : goal.returns-then-end-part
returns-then-end-part c =
    let part = c.args.part.now in
    let i = c.next_stop-colon.result in
    let j = c.next_stop-end.result in
    let x = take (i - 0) (drop 0 part) in
    let y = take (j - (i + 1)) (drop (i + 1) part) in
    let first =
    c.next_stop-colon.ensures.more (omega arith) in
    let second =
    c.next_stop-end.ensures.more c.if-end-part.true in
    cc (no_entry x y _
    (some_parts 58 (drop (j + 1) part)))

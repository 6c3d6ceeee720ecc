use Rattle.std.proofs.Common.{◌≡◌, ◌+◌, ◌-◌, ◌∙◌, ap, sym, take, drop, arith}
use Rattle.fx_book.specs.Parts.{split}
use Rattle.fx_book.proofs.Splits.{some_parts}
use Rattle.fx_table_book.specs.Texts.{from_order, from_key, with_order}
use Rattle.fx_table_book.proofs.Fronts.{order_line}
use Rattle.fx_table_book.proofs.reading.from_order.Goals as goal

pub returns-in-Err-clause-read : goal.returns-in-Err-clause-read
returns-in-Err-clause-read c =
    let bytes = c.args.bytes.now in
    let end = c.line_end-end.result in
    let rest = split 10 (drop (end + 1) bytes) in
    let line = take (end - c.args.at) (drop c.args.at bytes) in
    rw c.stop-in-Err.ensures
    (order_line line rest _ (c.line_end-end.ensures.more (omega arith)) (some_parts 10 (drop (end + 1) bytes))
    c.args.base
    ∙ ap (with_order c.args.base rest) (sym c.order_from.ensures ∙ c.in-Err.is))

pub returns-in-Ok-clause-read : goal.returns-in-Ok-clause-read
returns-in-Ok-clause-read c =
    let bytes = c.args.bytes.now in
    let end = c.line_end-end.result in
    let rest = split 10 (drop (end + 1) bytes) in
    let line = take (end - c.args.at) (drop c.args.at bytes) in
    let e : from_order c.args.base (split 10 (drop c.args.at bytes)) ≡ from_key c.args.base c.in-Ok.order rest =
    order_line line rest _ (c.line_end-end.ensures.more (omega arith)) (some_parts 10 (drop (end + 1) bytes))
    c.args.base
    ∙ ap (with_order c.args.base rest) (sym c.order_from.ensures ∙ c.in-Ok.is) in
    rw e c.from_key.ensures.read

use Rattle.std.proofs.Common.{◌≡◌, ◌+◌, ◌-◌, ◌∙◌, ap, sym, take, drop, arith}
use Rattle.fx_book.specs.Parts.{split}
use Rattle.fx_book.proofs.Splits.{some_parts}
use Rattle.fx_table_book.specs.Texts.{from_base, from_order, with_base}
use Rattle.fx_table_book.proofs.Fronts.{base_line}
use Rattle.fx_table_book.proofs.reading.from_base.Goals as goal

pub returns-in-Err-clause-read : goal.returns-in-Err-clause-read
returns-in-Err-clause-read c =
    let bytes = c.args.bytes.now in
    let end = c.line_end-end.result in
    let rest = split 10 (drop (end + 1) bytes) in
    let line = take (end - c.args.at) (drop c.args.at bytes) in
    rw c.stop-in-Err.ensures
    (base_line line rest _ (c.line_end-end.ensures.more (omega arith)) (some_parts 10 (drop (end + 1) bytes))
    ∙ ap (with_base rest) (sym c.base_of.ensures.base ∙ c.in-Err.is))

pub returns-in-Ok-clause-read : goal.returns-in-Ok-clause-read
returns-in-Ok-clause-read c =
    let bytes = c.args.bytes.now in
    let end = c.line_end-end.result in
    let rest = split 10 (drop (end + 1) bytes) in
    let line = take (end - c.args.at) (drop c.args.at bytes) in
    let e : from_base (split 10 (drop c.args.at bytes)) ≡ from_order c.in-Ok.base rest =
    base_line line rest _ (c.line_end-end.ensures.more (omega arith)) (some_parts 10 (drop (end + 1) bytes))
    ∙ ap (with_base rest) (sym c.base_of.ensures.base ∙ c.in-Ok.is) in
    rw e c.from_order.ensures.read

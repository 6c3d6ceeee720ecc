use Rattle.std.proofs.Common.{◌≡◌, ◌+◌, ◌-◌, ◌∙◌, ap, sym, take, drop, arith}
use Rattle.fx_book.specs.Parts.{split}
use Rattle.fx_book.proofs.Splits.{some_parts}
use Rattle.fx_table_book.specs.Texts.{from_size, from_demands, with_size}
use Rattle.fx_table_book.proofs.Fronts.{size_line}
use Rattle.fx_table_book.proofs.reading.from_size.Goals as goal

pub returns-in-Err-clause-read : goal.returns-in-Err-clause-read
returns-in-Err-clause-read c =
    let bytes = c.args.bytes.now in
    let end = c.line_end-end.result in
    let rest = split 10 (drop (end + 1) bytes) in
    let line = take (end - c.args.at) (drop c.args.at bytes) in
    rw c.stop-in-Err.ensures
    (size_line line rest _ (c.line_end-end.ensures.more (omega arith)) (some_parts 10 (drop (end + 1) bytes))
    ∙ ap (with_size rest) (sym c.size_of.ensures.base ∙ c.in-Err.is))

pub returns-in-Ok-clause-read : goal.returns-in-Ok-clause-read
returns-in-Ok-clause-read c =
    let bytes = c.args.bytes.now in
    let end = c.line_end-end.result in
    let rest = split 10 (drop (end + 1) bytes) in
    let line = take (end - c.args.at) (drop c.args.at bytes) in
    let e : from_size (split 10 (drop c.args.at bytes)) ≡ from_demands c.in-Ok.base rest =
    size_line line rest _ (c.line_end-end.ensures.more (omega arith)) (some_parts 10 (drop (end + 1) bytes))
    ∙ ap (with_size rest) (sym c.size_of.ensures.base ∙ c.in-Ok.is) in
    rw e c.from_demands.ensures.read

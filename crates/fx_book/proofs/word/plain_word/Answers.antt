use Rattle.std.proofs.Common.{◌≡◌, ◌+◌, ◌∙◌, ap, drop, arith, Ok, refl}
use Rattle.fx_vectors.specs.Shape.{dimensions_of}
use Rattle.fx_vectors.proofs.Limits.{order-bounds, words_fit, rows_fit}
use Rattle.fx_book.specs.Parts.{parts_after}
use Rattle.fx_book.specs.Placing.{placing_of}
use Rattle.fx_book.specs.Words.{by_entries, entries_of_parts}
use Rattle.fx_book.proofs.Splits.{some_parts}
use Rattle.fx_book.proofs.Listed.{at_line_end}
use Rattle.fx_book.proofs.Lines.{some_after}
use Rattle.fx_book.proofs.Placing.{at_last, rest_of}
use Rattle.fx_book.proofs.Texts.{by_entries_written}
use Rattle.fx_book.proofs.word.plain_word.Goals as goal

pub returns-clause-within : goal.returns-clause-within
returns-clause-within c =
    let d = dimensions_of c.args.shape in
    let line = c.args.line.now in
    let parts = parts_after c.args.end line in
    let b = order-bounds c.args.shape.q c.requires.shaped.order in
    let rows = rows_fit c.args.shape c.requires.shaped in
    let some =
    rw (← (some_after line c.args.end c.requires.more)) at (some_parts 32 (drop (c.args.end + 1) line)) in
    let whole : by_entries d (entries_of_parts parts) ≡ Ok c.loop-end.plain.number =
    c.loop-end.invariant.so_far
    ∙ ap (λ ps. rest_of d (placing_of c.loop-end.plain) (entries_of_parts ps))
    (at_line_end line c.loop-end.end c.loop-end.invariant.within c.loop-end-test.false)
    ∙ at_last d (placing_of c.loop-end.plain) in
    let written =
    by_entries_written d (omega arith) (omega arith) (omega arith)
    (words_fit c.args.shape c.requires.shaped (c.args.shape.s + c.args.shape.t) (omega arith)) parts
    _ c.loop-end.plain.number some refl whole in
    (written.some, written.below)

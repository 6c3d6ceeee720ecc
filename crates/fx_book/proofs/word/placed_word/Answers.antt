use Rattle.std.proofs.Common.{◌≡◌, ◌+◌, ◌∙◌, ap, sym, drop}
use Rattle.std.proofs.Common.{arith, Ok, refl}
use Rattle.std.proofs.Math.Nat.{pow-zero}
use Rattle.std.proofs.lemmas.Bool.{cond-true}
use Rattle.fx_vectors.specs.Shape.{dimensions_of}
use Rattle.fx_vectors.proofs.Limits.{order-bounds, words_fit, rows_fit}
use Rattle.fx_book.specs.Parts.{parts_after}
use Rattle.fx_book.specs.Words.{by_entries, entries_of_parts, with_entry}
use Rattle.fx_book.proofs.Splits.{some_parts}
use Rattle.fx_book.proofs.Listed.{next_after, at_line_end}
use Rattle.fx_book.proofs.Lines.{some_after}
use Rattle.fx_book.proofs.Placing.{rest_of, at_first, next_entry, at_last}
use Rattle.fx_book.proofs.Texts.{by_entries_written}
use Rattle.fx_book.proofs.word.placed_word.Goals as goal

pub loop-end-init : goal.loop-end-init
loop-end-init c =
    let d = dimensions_of c.args.shape in
    record {
      within = omega arith;
      sound = record { rows = omega arith; below = omega (arith, pow-zero c.args.shape.q) };
      so_far = at_first d (entries_of_parts (parts_after c.args.end c.args.line.now));
    }

pub returns-in-None-clause-word : goal.returns-in-None-clause-word
returns-in-None-clause-word c =
    let d = dimensions_of c.args.shape in
    let line = c.args.line.now in
    let next = c.next_stop-end.result in
    let stop = c.next_stop-end.ensures in
    let rest = entries_of_parts (parts_after next line) in
    sym (c.loop-end.invariant.so_far
    ∙ ap (λ ps. rest_of d c.loop-end.placing (entries_of_parts ps))
    (next_after line c.loop-end.end next c.loop-end-test.true stop.within stop.last stop.more)
    ∙ ap (λ o. rest_of d c.loop-end.placing (with_entry o rest)) (sym c.entry_from.ensures ∙ c.in-None.is))

pub loop-end-preserved : goal.loop-end-preserved
loop-end-preserved c =
    let d = dimensions_of c.args.shape in
    let line = c.args.line.now in
    let next = c.next_stop-end.result in
    let stop = c.next_stop-end.ensures in
    let rest = entries_of_parts (parts_after next line) in
    let placing = c.loop-end.placing in
    record {
      within = stop.within;
      sound = c.placed-placing.ensures.sound;
      so_far =
          c.loop-end.invariant.so_far
          ∙ ap (λ ps. rest_of d placing (entries_of_parts ps))
          (next_after line c.loop-end.end next c.loop-end-test.true stop.within stop.last stop.more)
          ∙ ap (λ o. rest_of d placing (with_entry o rest)) (sym c.entry_from.ensures ∙ c.in-Some.is)
          ∙ next_entry d placing c.in-Some.entry rest
          ∙ ap (λ p. rest_of d p rest) (sym c.placed-placing.ensures.placed);
    }

pub returns-then-placing-clause-within : goal.returns-then-placing-clause-within
returns-then-placing-clause-within c =
    let d = dimensions_of c.args.shape in
    let line = c.args.line.now in
    let parts = parts_after c.args.end line in
    let placing = c.loop-end.placing in
    let b = order-bounds c.args.shape.q c.requires.shaped.order in
    let rows = rows_fit c.args.shape c.requires.shaped in
    let some =
    rw (← (some_after line c.args.end c.requires.more)) at (some_parts 32 (drop (c.args.end + 1) line)) in
    let whole : by_entries d (entries_of_parts parts) ≡ Ok placing.number =
    c.loop-end.invariant.so_far
    ∙ ap (λ ps. rest_of d placing (entries_of_parts ps))
    (at_line_end line c.loop-end.end c.loop-end.invariant.within c.loop-end-test.false)
    ∙ at_last d placing ∙ cond-true placing.fits _ _ c.if-placing.true in
    let written =
    by_entries_written d (omega arith) (omega arith) (omega arith)
    (words_fit c.args.shape c.requires.shaped (c.args.shape.s + c.args.shape.t) (omega arith)) parts
    _ placing.number some refl whole in
    (written.some, written.below)

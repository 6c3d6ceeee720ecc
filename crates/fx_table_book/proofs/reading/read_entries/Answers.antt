use Rattle.std.proofs.Common.{◌+◌, ◌-◌, ◌∙◌, ◌∷◌, [], ap, sym, take, drop, arith}
use Rattle.std.proofs.Common.{length-drop, length-append, All, subst}
use Rattle.std.proofs.lemmas.List.Elements.{All-push}
use Rattle.fx_book.specs.Parts.{split}
use Rattle.fx_book.proofs.Splits.{some_parts}
use Rattle.fx_book.proofs.Lines.{something_left}
use Rattle.fx_table_book.specs.Tables.{IsSmall, entries_of}
use Rattle.fx_table_book.specs.Tables as tables
use Rattle.fx_table_book.specs.Texts.{after_entry, entries, read_as}
use Rattle.fx_table_book.proofs.Lines.{onto, end_followed, at_entry, onto_after}
use Rattle.fx_table_book.proofs.reading.read_entries.Goals as goal

pub returns-then-at-bytes-clause-read : goal.returns-then-at-bytes-clause-read
returns-then-at-bytes-clause-read c =
    let bytes = c.args.bytes.now in
    let after = drop (c.line_end-end.result + 1) bytes in
    rw c.stop-then-at-bytes.ensures
    (c.loop-at.invariant.so_far
    ∙ ap (onto (entries_of c.loop-at.entries))
    (ap (entries c.args.base c.loop-at.line) (c.line_end-end.ensures.more (omega arith))
    ∙ end_followed c.args.base c.loop-at.line (take (c.line_end-end.result - c.loop-at.at) (drop c.loop-at.at bytes)) _
    (some_parts 10 after)
    (cc (c.is_word.ensures, c.if-is_word.true))
    (something_left 10 after (omega (arith, length-drop (c.line_end-end.result + 1) bytes)))))

pub returns-in-Err-clause-read : goal.returns-in-Err-clause-read
returns-in-Err-clause-read c =
    let b = c.args.base in
    let after = drop (c.line_end-end.result + 1) c.args.bytes.now in
    let line = take (c.line_end-end.result - c.loop-at.at) (drop c.loop-at.at c.args.bytes.now) in
    rw c.stop-in-Err.ensures
    (c.loop-at.invariant.so_far
    ∙ ap (onto (entries_of c.loop-at.entries))
    (ap (entries b c.loop-at.line) (c.line_end-end.ensures.more (omega arith))
    ∙ at_entry b c.loop-at.line line _ (some_parts 10 after)
    (cc (c.is_word.ensures, c.if-is_word.false))
    ∙ ap (λ r. after_entry c.loop-at.line r (entries b (c.loop-at.line + 1) (split 10 after)))
    (sym c.read_line.ensures.entry ∙ ap read_as c.in-Err.is)))

pub loop-at-preserved : goal.loop-at-preserved
loop-at-preserved c =
    let b = c.args.base in
    let after = drop (c.line_end-end.result + 1) c.args.bytes.now in
    let line = take (c.line_end-end.result - c.loop-at.at) (drop c.loop-at.at c.args.bytes.now) in
    record {
      within = omega arith;
      few = rw c.in_ok-push-in-Ok.ensures.ok
          (omega (arith, length-append c.loop-at.entries (c.in-Ok.entry ∷ [])));
      valid = subst (All (IsSmall b)) (sym c.in_ok-push-in-Ok.ensures.ok)
          (All-push (IsSmall b) c.loop-at.entries c.in-Ok.entry c.loop-at.invariant.valid c.in-Ok.ensures.valid);
      line = omega arith;
      so_far =
          cc (
            c.loop-at.invariant.so_far,
            (c.line_end-end.ensures.more (omega arith)),
            at_entry b c.loop-at.line line _
                (some_parts 10 after)
                (cc (c.is_word.ensures, c.if-is_word.false)),
            (sym c.read_line.ensures.entry ∙ ap read_as c.in-Ok.is),
            onto_after c.loop-at.entries c.loop-at.line c.in-Ok.entry
                (entries b (c.loop-at.line + 1) (split 10 after)),
            c.in_ok-push-in-Ok.ensures.ok,
          );
    }

use Rattle.std.proofs.Common.{◌+◌, ◌-◌, ◌∙◌, ◌∷◌, [], ap, sym, take, drop, arith}
use Rattle.std.proofs.Common.{length-drop, length-append}
use Rattle.std.proofs.lemmas.List.Elements.{All-push}
use Rattle.fx_vectors.specs.Marks.{meaning_of}
use Rattle.fx_book.specs.Valid.{IsEntry}
use Rattle.fx_vectors.specs.Shape.{dimensions_of}
use Rattle.fx_book.specs.Parts.{split}
use Rattle.fx_book.specs.Reading.{entries, onto, after_entry}
use Rattle.fx_book.proofs.Splits.{some_parts}
use Rattle.fx_book.proofs.Lines.{end_followed, at_entry, onto_after, something_left}
use Rattle.fx_book.proofs.reading.read_entries.Goals as goal

pub returns-then-at-bytes-clause-read : goal.returns-then-at-bytes-clause-read
returns-then-at-bytes-clause-read c =
    let d = dimensions_of c.args.shape in
    let b = c.args.beaten in
    let bytes = c.args.bytes.now in
    let after = drop (c.line_end-end.result + 1) bytes in
    let line = take (c.line_end-end.result - c.loop-at.at) (drop c.loop-at.at bytes) in
    let cut = c.line_end-end.ensures.more (omega arith) in
    rw c.stop-then-at-bytes.ensures
    (c.loop-at.invariant.so_far
    ∙ ap (onto c.loop-at.marks) (ap (entries c.args.version d b c.loop-at.line) cut
    ∙ end_followed c.args.version d b c.loop-at.line line (split 10 after) (some_parts 10 after)
    (cc (c.is_word.ensures, c.if-is_word.true))
    (something_left 10 after (omega (arith, length-drop (c.line_end-end.result + 1) bytes)))))

pub returns-in-Err-clause-read : goal.returns-in-Err-clause-read
returns-in-Err-clause-read c =
    let d = dimensions_of c.args.shape in
    let b = c.args.beaten in
    let bytes = c.args.bytes.now in
    let after = drop (c.line_end-end.result + 1) bytes in
    let line = take (c.line_end-end.result - c.loop-at.at) (drop c.loop-at.at bytes) in
    let cut = c.line_end-end.ensures.more (omega arith) in
    let is =
    sym c.read_entry.ensures.entry ∙ c.in-Err.is in
    rw c.stop-in-Err.ensures
    (c.loop-at.invariant.so_far
    ∙ ap (onto c.loop-at.marks) (ap (entries c.args.version d b c.loop-at.line) cut
    ∙ at_entry c.args.version d b c.loop-at.line line (split 10 after) (some_parts 10 after)
    (cc (c.is_word.ensures, c.if-is_word.false))
    ∙ ap (λ r. after_entry c.loop-at.line r (entries c.args.version d b (c.loop-at.line + 1) (split 10 after))) is))

pub loop-at-preserved : goal.loop-at-preserved
loop-at-preserved c =
    let d = dimensions_of c.args.shape in
    let b = c.args.beaten in
    let bytes = c.args.bytes.now in
    let after = drop (c.line_end-end.result + 1) bytes in
    let line = take (c.line_end-end.result - c.loop-at.at) (drop c.loop-at.at bytes) in
    let within = c.line_end-end.ensures.within in
    let from = c.line_end-end.ensures.from in
    let cut = c.line_end-end.ensures.more (omega arith) in
    let is = sym c.read_entry.ensures.entry ∙ c.in-Ok.is in
    record {
      within = omega arith;
      few = rw c.in_ok-push-in-Ok.ensures.ok
          (omega (arith, length-append c.loop-at.marks (meaning_of c.in-Ok.mark ∷ [])));
      valid = rw c.in_ok-push-in-Ok.ensures.ok
          (All-push (IsEntry d b) c.loop-at.marks (meaning_of c.in-Ok.mark) c.loop-at.invariant.valid
          c.in-Ok.ensures.valid);
      line = omega arith;
      so_far =
          cc (
            c.loop-at.invariant.so_far,
            at_entry c.args.version d b c.loop-at.line line _ (some_parts 10 after)
                (cc (c.is_word.ensures, c.if-is_word.false)),
            onto_after c.loop-at.marks c.loop-at.line c.in-Ok.mark
                (entries c.args.version d b (c.loop-at.line + 1) (split 10 after)),
            c.in_ok-push-in-Ok.ensures.ok,
          );
    }

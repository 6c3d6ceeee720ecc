use Rattle.std.proofs.Common.{◌≡◌, ◌+◌, ◌-◌, ◌∙◌, ap, sym, [], ◌∷◌, length, drop, take, take_all, arith, false}
use Rattle.std.proofs.Common.{true, length-drop}
use Rattle.std.proofs.lemmas.Bool.{cond-true, cond-false}
use Rattle.fx_vectors.specs.Shape.{dimensions_of}
use Rattle.fx_book.specs.Parts.{split, parts_after, number_of}
use Rattle.fx_book.specs.Words.{word_written, by_number, is_long_word, by_entries, entries_of_parts}
use Rattle.fx_book.specs.declared.version.Version.TheVariants.{Second}
use Rattle.fx_book.proofs.Splits.{some_parts}
use Rattle.fx_book.proofs.Listed.{more_after, next_after, at_line_end}
use Rattle.fx_book.proofs.Lines.{placed_parts}
use Rattle.fx_book.proofs.word.second_word.Goals as goal

pub returns-then-next-line-clause-word : goal.returns-then-next-line-clause-word
returns-then-next-line-clause-word c =
    let d = dimensions_of c.args.shape in
    let line = c.args.line.now in
    let end = c.args.end in
    let next = c.next_stop-next.result in
    let x = take (next - (end + 1)) (drop (end + 1) line) in
    let others = split 32 (drop (next + 1) line) in
    let parts =
    more_after line end next c.requires.more (c.next_stop-next.ensures.more c.if-next-line.true) in
    cc (c.placed_word.ensures.word, parts, placed_parts d x others (some_parts 32 (drop (next + 1) line)))

pub returns-then-is_numbered-clause-word : goal.returns-then-is_numbered-clause-word
returns-then-is_numbered-clause-word c =
    let d = dimensions_of c.args.shape in
    let line = c.args.line.now in
    let end = c.args.end in
    let next = c.next_stop-next.result in
    let stop = c.next_stop-next.ensures in
    let x = take (next - (end + 1)) (drop (end + 1) line) in
    let parts : parts_after end line ≡ x ∷ [] =
    cc (
      next_after line end next c.requires.more stop.within stop.last stop.more,
      at_line_end line next stop.within
          c.if-next-line.false,
    ) in
    c.long_word.ensures.word ∙ ap (by_number (is_long_word d))
    (c.number.ensures ∙ ap number_of (take_all (length x - 1) (drop 1 x) (omega (arith, length-drop 1 x))))
    ∙ sym (ap (word_written Second d) parts ∙ cond-true _ _ _ (sym c.is_numbered.ensures.read ∙ c.if-is_numbered.true))

pub returns-else-is_numbered-clause-word : goal.returns-else-is_numbered-clause-word
returns-else-is_numbered-clause-word c =
    let d = dimensions_of c.args.shape in
    let line = c.args.line.now in
    let end = c.args.end in
    let next = c.next_stop-next.result in
    let stop = c.next_stop-next.ensures in
    let x = take (next - (end + 1)) (drop (end + 1) line) in
    let parts : parts_after end line ≡ x ∷ [] =
    cc (
      next_after line end next c.requires.more stop.within stop.last stop.more,
      at_line_end line next stop.within
          c.if-next-line.false,
    ) in
    c.placed_word-else-is_numbered.ensures.word
    ∙ ap (λ ps. by_entries d (entries_of_parts ps)) parts
    ∙ sym (ap (word_written Second d) parts ∙ cond-false _ _ _
    (sym c.is_numbered.ensures.read ∙ c.if-is_numbered.false))

use Rattle.std.proofs.Common.{◌+◌, ◌-◌, drop, take}
use Rattle.fx_vectors.specs.Shape.{dimensions_of}
use Rattle.fx_book.proofs.Splits.{some_parts}
use Rattle.fx_book.proofs.Listed.{more_after}
use Rattle.fx_book.proofs.Lines.{too_many}
use Rattle.fx_book.proofs.word.first_word.Goals as goal

pub returns-then-next-line-clause-word : goal.returns-then-next-line-clause-word
returns-then-next-line-clause-word c =
    let line = c.args.line.now in
    let end = c.args.end in
    let next = c.next_stop-next.result in
    cc (
      more_after line end next c.requires.more (c.next_stop-next.ensures.more c.if-next-line.true),
      too_many
          (dimensions_of c.args.shape) (take (next - (end + 1)) (drop (end + 1) line))
          _ (some_parts 32 (drop (next + 1) line)),
    )

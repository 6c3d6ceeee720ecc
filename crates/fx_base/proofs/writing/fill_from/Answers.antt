use Rattle.std.proofs.Common.{◌∙◌}
use Rattle.fx_base.proofs.Doing.{pieces_more, pieces_part}
use Rattle.fx_base.proofs.writing.fill_from.Goals as goal

pub loop-piece-preserved : goal.loop-piece-preserved
loop-piece-preserved g c = record {
  done = pieces_more _ _ _ c.args.pieces.now c.loop-piece.piece-index c.piece-item.result c.loop-piece-test.true
      c.piece-item.is
      c.loop-piece.invariant.done (rw c.as_slice.ensures at c.in_ok-fill.ensures.done);
  state = c.in_ok-fill.ensures.state;
  same = c.in_ok-fill.ensures.cause.unchanged ∙ c.loop-piece.invariant.same;
  unchanged = c.in_ok-fill.ensures.unchanged ∙ c.loop-piece.invariant.unchanged;
}

pub returns-in_err-fill-clause-part : goal.returns-in_err-fill-clause-part
returns-in_err-fill-clause-part g c =
    pieces_part _ _ _ c.args.pieces.now c.loop-piece.piece-index c.piece-item.result c.loop-piece-test.true
    c.piece-item.is
    c.loop-piece.invariant.done (rw c.as_slice.ensures at c.in_err-fill.ensures.part)

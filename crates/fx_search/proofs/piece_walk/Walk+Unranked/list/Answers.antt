use Rattle.std.proofs.Common.{refl, sym, true≢false}
use Rattle.fx_search.specs.Walks.{standing_without_best}
use Rattle.fx_search.proofs.PieceSteps.{ahead-leave}
use Rattle.fx_search.proofs.Places.{paused-left, some-of}
use Rattle.fx_search.proofs.piece_walk.Walk+Unranked.list.Goals as goal

pub returns-then-is_empty-clause-last : goal.returns-then-is_empty-clause-last
returns-then-is_empty-clause-last c is =
    let v = c.loop-measure.self in
    let start = c.if-is_empty.ensures.0 refl in
    (start, rw start at c.in-None.ensures)

pub loop-measure-preserved : goal.loop-measure-preserved
loop-measure-preserved c =
    let v = c.loop-measure.self in
    let i = c.loop-measure.invariant in
    let left = c.leave.ensures in
    let some = some-of v.prefix.rows (λ e. true≢false (sym (c.if-is_empty.ensures.1 e))) in
    let placed = i.ahead.placed in
    let paused =
    paused-left standing_without_best v.question.now v c.leave.new.self refl placed.paused some left.at left.rows
    left.bound.1 left.same.1 in
    record {
      question = cc;
      limit = cc;
      marks = cc;
      ahead = ahead-leave v c.leave.new.self c.loop-measure.round.pieces c.loop-measure.round.after i.ahead
          c.in-None.ensures some
          (record { paused = paused; plain = cc })
          left.same.0 left.same.1 left.same.2 left.rows left.bound.0;
      most = i.most;
      own = i.own;
      some = i.some;
      room = i.room;
      last = i.last;
    }

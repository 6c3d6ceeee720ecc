use Rattle.std.proofs.Common.{◌≡◌, ◌<◌, ◌≤◌, ◌+◌, ◌-◌, ◌*◌, false, length}
use Rattle.fx_search.specs.SearchPieces.{IsAhead}
use Rattle.fx_search.proofs.piece_walk.Walk+Unranked.list.Given as goal

abbrev pub invariant-loop-measure : goal.invariant-loop-measure
invariant-loop-measure l = record {
  question : l.self.question ≡ l.fn.self.question;
  limit : l.self.limit ≡ l.fn.self.limit;
  marks : l.self.marks ≡ l.fn.self.marks;
  ahead : IsAhead l.self l.round.pieces l.round.after;
  most : length l.round.pieces ≤ l.measure.most;
  own : l.own ≤ l.room + 1;
  some : 0 < l.own → 0 < length l.round.pieces + length l.round.after;
  room : l.room ≡ l.fn.self.limit - length l.fn.self.marks;
  last : l.round.is_last ≡ false;
}

abbrev pub decreases-loop-measure : goal.decreases-loop-measure
decreases-loop-measure l =
    ((l.room + 1 - l.own) + (l.measure.most - length l.round.pieces)) * 42 + length l.self.prefix.rows

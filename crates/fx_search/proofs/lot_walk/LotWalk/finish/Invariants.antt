use Rattle.std.proofs.Common.{◌≡◌, ◌-◌, length}
use Rattle.fx_search.specs.LotWalks.{IsBetween, lot_view}
use Rattle.fx_search.proofs.lot_walk.LotWalk.finish.Given as goal

abbrev pub invariant-loop-asked : goal.invariant-loop-asked
invariant-loop-asked l = record {
  question : (lot_view l.self).question ≡ (lot_view l.fn.self).question;
  limit : l.self.walk.limit ≡ l.fn.self.walk.limit;
  between : IsBetween l.self;
}

abbrev pub decreases-loop-asked : goal.decreases-loop-asked
decreases-loop-asked l = l.self.walk.limit - length l.self.walk.marks

use Rattle.std.proofs.Common.{◌≡◌}
use Rattle.std.specs.Vec.Iter.{into_iter_items}
use Rattle.fx_search.specs.Walks.{standing_with_best}
use Rattle.fx_search.proofs.Adding.{IsAdding}
use Rattle.fx_search.proofs.lot_walk.add_all.Given as goal

abbrev pub invariant-loop-end : goal.invariant-loop-end
invariant-loop-end l =
    let s = standing_with_best l.fn.incumbent in
    record {
      standing : standing_with_best l.incumbent ≡ record s { best = (standing_with_best l.incumbent).best };
      adding : IsAdding s.problem l.limit s.prefix l.fn.marks s.best l.fn.ends (into_iter_items l.end-iterator) l.marks
          (standing_with_best l.incumbent).best;
    }

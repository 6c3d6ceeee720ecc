use Rattle.std.proofs.Common.{◌≡◌, sym, subst}
use Rattle.fx_vectors.specs.Question.{problem_of}
use Rattle.fx_search.specs.Folds.{IsLot}
use Rattle.fx_search.specs.LotWalks.{lot_view}
use Rattle.fx_board.specs.Lots.{AreJobsOf}
use Rattle.fx_board.proofs.LotFacts.{next-are}
use Rattle.fx_board.proofs.asking.SharedSearch.ends_of.Goals as goal

pub ends-requires-clause-jobs : goal.ends-requires-clause-jobs
ends-requires-clause-jobs g c κs within =
    let w = c.args.walk.now in
    let jobs = c.args.jobs.now in
    let h = c.requires.at in
    let earlier = c.earlier.result in
    let v = lot_view w in
    let rows : c.lot.result.now.rows ≡ v.rows = c.lot.ensures.rows in
    let lot = c.lot.result.now in
    let words = c.args.self.now.words.now in
    let made : AreJobsOf v.question c.candidates.result.now words lot jobs.rows earlier = record {
      lot_is = record {
        valid = h.placed.paused.at.valid;
        least = h.placed.least;
        candidates_are = c.candidates.ensures;
        shape = c.lot.ensures.shape h;
        is_lot = subst (IsLot (problem_of v.question)) (sym rows) h.in_lot.lot;
        earlier_is = cc c.earlier.ensures.rows;
        sized = c.earlier.ensures.sized;
      };
      rows_are =
          rw rows (next-are v.question h.placed.paused.at.valid v.rows v.bound jobs.rows jobs.end c.requires.next
          h.placed.paused.bound);
      words_are = rw c.requires.question c.requires.words;
    } in
    rw c.requires.question at made

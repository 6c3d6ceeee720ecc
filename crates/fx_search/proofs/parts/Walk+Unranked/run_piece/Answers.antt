use Rattle.std.proofs.Common.{false}
use Rattle.fx_designs.specs.Nodes.{parent}
use Rattle.fx_vectors.specs.Question.{problem_of}
use Rattle.fx_search.proofs.PieceSteps.{closed-end}
use Rattle.fx_search.proofs.parts.Walk+Unranked.run_piece.Goals as goal

pub returns-in-Closed-clause-end : goal.returns-in-Closed-clause-end
returns-in-Closed-clause-end g c =
    let question = c.args.self.now.question.now in
    let p = problem_of question in
    let j = c.args.piece.now.rows in
    let left = c.walk_part.new.self.prefix.rows in
    let h = rw c.in-Closed.is at c.in_ok-end.ensures.ended.ends in
    closed-end question j c.args.limit false c.take_marks-marks.result c.len-nodes.result (parent j) left
    (rw c.take_marks-marks.ensures.marks h) c.len-nodes.ensures

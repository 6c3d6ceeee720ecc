use Rattle.std.proofs.Common.{length, ap, ◌∙◌, arith}
use Rattle.fx_laws.proofs.Tables.{is_order-field}
use Rattle.fx_vectors.specs.Question.{problem_of}
use Rattle.fx_search.proofs.Whole.{whole_found}
use Rattle.fx_search.proofs.piece_walk.Walk+Unranked.found.Goals as goal

pub returns-clause-right : goal.returns-clause-right
returns-clause-right c =
    let question = c.args.self.now.question.now in
    let r = whole_found (problem_of question) (is_order-field question.shape.q c.requires.valid.shaped.order)
    (omega arith) c.args.self.now.limit c.args.self.now.marks c.args.matrix.rows c.requires.found in
    let same = c.take_marks-marks.ensures.marks in
    let count = c.len-nodes.ensures ∙ ap length same in
    ((r.0, c.requires.shape, cc, cc, omega arith), tt)

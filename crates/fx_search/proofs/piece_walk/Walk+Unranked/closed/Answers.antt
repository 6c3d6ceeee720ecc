use Rattle.std.proofs.Common.{◌<◌, ◌+◌, [], length, ap, ◌∙◌, arith}
use Rattle.fx_laws.proofs.Tables.{is_order-field}
use Rattle.fx_vectors.specs.Question.{problem_of}
use Rattle.fx_search.proofs.NoneAtAll.{none_at_all}
use Rattle.fx_search.proofs.Whole.{whole_closed, closed_plain}
use Rattle.fx_search.proofs.piece_walk.Walk+Unranked.closed.Goals as goal

pub returns-clause-right : goal.returns-clause-right
returns-clause-right c =
    let question = c.args.self.now.question.now in
    let p = problem_of question in
    let f = is_order-field question.shape.q c.requires.valid.shaped.order in
    let some : 0 < question.shape.s + question.shape.t = omega arith in
    let none =
    closed_plain p f some c.args.self.now.limit c.args.self.now.marks [] [] c.requires.closed c.requires.plain in
    let r = whole_closed p f some c.args.self.now.limit c.args.self.now.marks [] [] c.requires.closed in
    let same = c.take_marks-marks.ensures.marks in
    let count = c.len-nodes.ensures ∙ ap length same in (
      (none, cc, cc, omega arith),
      none_at_all question
          c.requires.valid none,
    )

use Rattle.std.proofs.Common.{◌<◌, ◌+◌, arith}
use Rattle.fx_laws.proofs.Tables.{is_order-field}
use Rattle.fx_vectors.specs.Question.{problem_of}
use Rattle.fx_search.proofs.Whole.{whole_spent, carried_is}
use Rattle.fx_search.proofs.lot_walk.LotWalk.budget_ended.Goals as goal

pub returns : goal.returns
returns c =
    let question = c.args.self.now.walk.question.now in
    let p = problem_of question in
    let f = is_order-field question.shape.q c.requires.valid.shaped.order in
    let some : 0 < question.shape.s + question.shape.t = omega arith in (
      (
        whole_spent p f some c.args.self.now.walk.limit c.requires.spent,
        cc (
          c.kept.ensures.rows,
          c.matrix_of.ensures.rows,
          carried_is p f some
              c.args.self.now.walk.limit
              _ c.requires.carried,
        ),
        c.kept.ensures.sized _ (c.matrix_of.ensures.sized p.dimensions c.requires.sized),
      ),
      tt,
    )

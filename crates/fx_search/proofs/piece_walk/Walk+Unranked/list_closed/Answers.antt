use Rattle.std.proofs.Common.{◌++◌, ◌∷◌, [], ap, ◌∙◌}
use Rattle.fx_designs.specs.Nodes.{Word}
use Rattle.fx_laws.proofs.Tables.{is_order-field}
use Rattle.fx_tree.proofs.Found.{barred-shut}
use Rattle.fx_vectors.specs.Question.{problem_of}
use Rattle.fx_search.proofs.PieceSteps.{ahead-closed}
use Rattle.fx_search.proofs.piece_walk.Walk+Unranked.list_closed.Goals as goal

pub returns-clause-ahead : goal.returns-clause-ahead
returns-clause-ahead c =
    let question = c.args.self.now.question.now in
    let p = problem_of question in
    let q = c.args.self.now.prefix.rows in
    let row = c.args.row in
    let h = c.requires.ahead in
    let shut =
    barred-shut p (is_order-field question.shape.q h.placed.paused.at.valid.shaped.order) q row c.requires.closed in
    let word =
    rw (h.placed.paused.at.pruner_problem, h.placed.paused.at.pruner_rows) at c.word-word.ensures in
    ahead-closed c.args.self.now c.args.round.now.pieces c.args.round.now.after h row c.requires.next
    _ shut.mark shut.shut c.push.new.self
    (c.in_ok-push.ensures.ok ∙ ap (λ n. c.args.round.now.after ++ Word row n ∷ []) word)

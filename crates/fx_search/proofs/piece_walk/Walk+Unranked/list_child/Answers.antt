use Rattle.std.proofs.Common.{◌<◌, ◌++◌, ◌∷◌, [], ℕ, List, None, true, length, length-append, refl, sym}
use Rattle.std.proofs.Common.{◌∙◌, arith}
use Rattle.std.proofs.lemmas.Bool.{not-false}
use Rattle.fx_laws.proofs.Tables.{is_order-field}
use Rattle.fx_tree.proofs.Found.{open-walked}
use Rattle.fx_vectors.specs.Question.{problem_of}
use Rattle.fx_search.specs.Pruning.{full_length}
use Rattle.fx_search.proofs.PieceSteps.{ahead-down, any-best}
use Rattle.fx_search.proofs.piece_walk.Walk+Unranked.list_child.Goals as goal

pub returns-then-branch-clause-ahead : goal.returns-then-branch-clause-ahead
returns-then-branch-clause-ahead c =
    let w = c.args.self.now in
    let v = c.go_down_if_large.new.self in
    let question = w.question.now in
    let p = problem_of question in
    let q = w.prefix.rows in
    let row = c.args.row in
    let child : List ℕ = q ++ row ∷ [] in
    let h = c.requires.ahead in
    let placed = h.placed in
    let closes = rw (placed.paused.at.pruner_problem, placed.paused.at.pruner_rows) at c.closes.ensures in
    let long = length-append q (row ∷ []) in
    let part : length child < full_length p =
    omega arith in
    let opened =
    open-walked p (is_order-field question.shape.q placed.paused.at.valid.shaped.order) q row None refl
    (not-false _ (sym closes ∙ c.if-closes.false)) part (any-best p _ None placed.plain) in
    ahead-down w c.args.round.now.pieces c.args.round.now.after h row c.requires.next _ opened.mark
    opened.is_expanded part v (rw c.if-branch.true at c.in_ok-go_down_if_large.ensures.place)
    c.go_down_if_large.ensures.question c.go_down_if_large.ensures.limit
    c.go_down_if_large.ensures.marks
    c.push.new.self c.in_ok-push.ensures.ok

use Rattle.std.proofs.Common.{◌≡◌, ◌<◌, ◌+◌, ◌-◌, None, length, sym, ap, ◌∙◌, arith}
use Rattle.fx_designs.specs.Jobs.{carried}
use Rattle.fx_designs.specs.Nodes.{nodes}
use Rattle.fx_search.specs.Standing.{best_rows}
use Rattle.fx_statements.specs.Steps.{meaning_of}
use Rattle.fx_statements.specs.Questions.{cut_short, found_by, last_found, nodes_of, question_for, reached_beside}
use Rattle.fx_answer.specs.Asking.{questions_below}
use Rattle.fx_answer.proofs.Answered.{left-is-whole, left-of, left-stands, with_matrix, with_none}
use Rattle.fx_answer.proofs.Asking.{cut, cut_books}
use Rattle.fx_answer.proofs.Shapes.{is_outcome}
use Rattle.fx_answer.proofs.Valid.{kept_valid}
use Rattle.fx_answer.proofs.answering.follow.Goals as goal

pub go_on-requires-clause-finished : goal.go_on-requires-clause-finished
go_on-requires-clause-finished c =
    let h = rw c.in-Found.is at c.requires.answer in
    with_matrix _ c.args.n c.requires.turn c.args.question c.requires.problem c.args.finished c.requires.finished
    c.in-Found.nodes _ _ h.2 h.4 c.question_number-number.ensures c.in_ok-add_answer-in-Found.ensures
    c.in-Found.matrix _ h.0 h.1 c.requires.of_step c.resolution_wanted-reached.ensures

pub go_on-requires-in-Nothing-clause-finished : goal.go_on-requires-in-Nothing-clause-finished
go_on-requires-in-Nothing-clause-finished c =
    let h = rw c.in-Nothing.is at c.requires.answer in
    with_none _ c.args.n c.requires.turn c.args.question c.requires.problem c.args.finished c.requires.finished
    c.in-Nothing.nodes _ _ h.1 h.3 c.question_number-number.ensures c.in_ok-add_absence-in-Nothing.ensures h.0

pub cut_short-requires-clause-whole : goal.cut_short-requires-clause-whole
cut_short-requires-clause-whole c =
    let h = rw c.in-Budget.is at c.requires.answer in
    rw c.or-left.ensures
    (left-is-whole c.args.question _ c.in-Budget.best c.args.finished.found h.1 h.2 c.requires.finished.whole)

pub returns-in-Budget : goal.returns-in-Budget
returns-in-Budget c =
    let step = meaning_of c.args.step.now in
    let p = question_for step c.args.n in
    let below = questions_below step c.args.n in
    let before = last_found None below in
    let come = c.requires.finished in
    let budget = step.settings.budget in
    let own = carried p (budget - nodes_of below) in
    let h = rw c.in-Budget.is at c.requires.answer in
    let spent : budget - c.args.finished.nodes ≡ budget - nodes_of below = ap (λ k. budget - k) come.nodes in
    let passed = rw c.requires.problem at h.0 in
    let more : budget < nodes_of below + length (nodes p) = omega (arith, passed, come.nodes) in
    let stands =
    rw spent at (left-stands c.args.question _ c.in-Budget.best c.args.finished.found before p h.1 h.2
    c.requires.problem come.found) in
    let carries : best_rows c.in-Budget.best ≡ own = cc (h.1, spent, c.requires.problem) in
    let reached : c.reached_beside-reached.result ≡ reached_beside own before =
    cc (c.reached_beside-reached.ensures before come.reached, carries) in
    is_outcome step (kept_valid c.args.step.now) _
    (c.cut_short.ensures.of_step step c.requires.of_step
    (rw c.or-left.ensures
    (left-of c.args.question (budget - c.args.finished.nodes) step c.in-Budget.best c.args.finished.found h.2
    c.requires.of_step come.of_step)))
    (c.cut_short.ensures.concluded p (found_by before p own) (sym (ap (λ p. p.dimensions) c.requires.problem))
    (rw c.or-left.ensures stands)
    ∙ (ap (λ r. cut_short p (found_by before p own) r budget) reached ∙ sym (cut step c.args.n c.requires.turn more)))
    (c.cut_short.ensures.books ∙ (come.books ∙ sym (cut_books step c.args.n c.requires.turn more)))

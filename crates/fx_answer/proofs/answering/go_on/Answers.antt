use Rattle.std.proofs.Common.{◌≡◌, ◌<◌, ◌≤◌, ◌+◌, ◌⊎◌, None, true, false, sym, ap, ◌∙◌, inl, inr, arith}
use Rattle.fx_statements.specs.Steps.{meaning_of}
use Rattle.fx_statements.specs.Questions.{concluded, highest, is_last, last_found, nodes_of, question_for, until}
use Rattle.fx_answer.specs.Asking.{questions_below}
use Rattle.fx_answer.proofs.Asking.{next_turn, whole, whole_books}
use Rattle.fx_answer.proofs.Shapes.{is_outcome}
use Rattle.fx_answer.proofs.Valid.{kept_valid}
use Rattle.fx_answer.proofs.answering.go_on.Goals as goal
use Rattle.fx_answer.proofs.answering.go_on.Goals.{then-n-highest-via-then-n-highest}
use Rattle.fx_answer.proofs.answering.go_on.Goals.{then-n-highest-via-else-n-highest+then-is_last}

pub returns-then-n-highest : goal.returns-then-n-highest
returns-then-n-highest c =
    let step = meaning_of c.args.step.now in
    let n = c.args.n in
    let p = question_for step n in
    let ps = questions_below step (n + 1) in
    let come = c.requires.finished in
    let few : nodes_of ps ≤ step.settings.budget = rw come.nodes at come.within in
    let is : (n ≡ highest step step.settings.size) ⊎ (is_last (until step.settings.size) p ≡ true) =
    elim c.then-n-highest.branch [
      | then-n-highest-via-then-n-highest w ↦ inl (cc (w.if-n-highest.true, c.highest.ensures))
      | then-n-highest-via-else-n-highest+then-is_last w ↦
          inr (cc (w.is_last.ensures, w.if-is_last.true, c.requires.answered))
    ] in
    is_outcome step (kept_valid c.args.step.now) _
    (c.concluded.ensures.of_step step c.requires.shape come.of_step)
    (c.concluded.ensures.concluded p (last_found None ps) c.requires.dimensions come.found come.reached
    ∙ (ap (concluded p (last_found None ps)) come.nodes ∙ sym (whole step n c.requires.turn few is)))
    (c.concluded.ensures.books ∙ (come.books ∙ sym (whole_books step n c.requires.turn few is)))

pub returns : goal.returns
returns c =
    let step = meaning_of c.args.step.now in
    let n = c.args.n in
    let come = c.requires.finished in
    let few : nodes_of (questions_below step (n + 1)) ≤ step.settings.budget = rw come.nodes at come.within in
    let on : is_last (until step.settings.size) (question_for step n) ≡ false =
    cc (c.is_last.ensures, c.if-is_last.false, c.requires.answered) in
    let high : n < highest step step.settings.size =
    omega (arith, c.if-n-highest.false, c.highest.ensures, c.requires.turn.high) in
    (next_turn step n c.requires.turn few high on, come)

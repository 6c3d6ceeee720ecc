use Rattle.std.proofs.Common.{sym, ◌∙◌, ap, take}
use Rattle.std.proofs.lemmas.Result.{IfOk-weaker}
use Rattle.fx_program.specs.Plans.{AskedView, named_in, plans_of}
use Rattle.fx_program.proofs.Planned.{made, named_is, not_made, past_is}
use Rattle.fx_program.proofs.plans.+plans.Goals as goal

pub plan_at-returns-in-None : goal.plan_at-returns-in-None
plan_at-returns-in-None t c =
    not_made c.args.seed c.args.asked.now c.args.number c.index-asked-number.result c.requires c.index-asked-number.is
    (sym (ap (λ (a : AskedView). a.matrix) c.one.view_is) ∙ c.in-None.is)

pub plan_at-returns : goal.plan_at-returns
plan_at-returns t c =
    let one = c.index-asked-number.result in
    let plans = plans_of c.args.seed (take c.args.number c.args.asked.now) in
    let inside =
    c.in_ok-inner.ensures ∙ ap (λ (a : AskedView). named_in plans a.output.pointrep) c.one.view_is in
    let outside =
    c.in_ok-outer.ensures ∙ ap (λ (a : AskedView). named_in plans a.output.designrep) c.one.view_is in
    let has = sym (ap (λ (a : AskedView). a.matrix) c.one.view_is) ∙ c.in-Some.is in
    IfOk-weaker c.plan_made.result _ _
    (λ plan e. e
    ∙ made c.args.seed c.args.asked.now c.args.number one c.in-Some.matrix c.in_ok-inner.inner
    c.in_ok-outer.outer c.requires c.index-asked-number.is has inside outside)
    c.plan_made.ensures

pub named-returns-then-number-before : goal.named-returns-then-number-before
named-returns-then-number-before t c =
    sym (ap (named_in (plans_of c.args.seed (take c.args.before c.args.asked.now))) c.in-Plan.is
    ∙ past_is c.args.seed c.args.asked.now c.args.before c.in-Plan.number c.requires c.if-number-before.true)

pub named-returns-else-number-before : goal.named-returns-else-number-before
named-returns-else-number-before t c =
    let plans = plans_of c.args.seed (take c.args.before c.args.asked.now) in
    IfOk-weaker c.plan_at.result _ _
    (λ plan e. e
    ∙ named_is c.args.seed c.args.asked.now c.args.before c.in-Plan.number c.requires c.if-number-before.false
    ∙ sym (ap (named_in plans) c.in-Plan.is))
    c.plan_at.ensures

use Rattle.std.proofs.Common.{◌≡◌, ap, sym, ◌∙◌, true, Some}
use Rattle.fx_program.specs.Plans.{AskedView, is_handed, plan_made}
use Rattle.fx_program.proofs.Planned.{made_of}
use Rattle.fx_program.proofs.plans.plan_made.Goals as goal

pub plan-requires-clause-design : goal.plan-requires-clause-design
plan-requires-clause-design c =
    c.asked.invariant.design c.args.matrix.now (ap (λ (a : AskedView). a.matrix) c.asked.view_is ∙ c.requires)

pub returns-then-is_handed-2 : goal.returns-then-is_handed-2
returns-then-is_handed-2 c =
    let output = c.asked.inside.output.now in
    let factors = c.asked.inside.step.now.factors in
    let matrix = c.args.matrix.now in
    let inner = c.args.inner in
    let outer = c.args.outer in
    let inside : is_handed output.pointrep inner ≡ true = sym c.is_handed.ensures ∙ c.if-is_handed.true in
    let outside : is_handed output.designrep outer ≡ true =
    sym c.is_handed-then-is_handed.ensures ∙ c.if-is_handed-2.true in
    ap Some c.in_ok-made.ensures
    ∙ sym (made_of c.args.seed factors output matrix inner outer inside outside)
    ∙ ap (λ (a : AskedView). plan_made c.args.seed a.factors a.output matrix inner outer) c.asked.view_is

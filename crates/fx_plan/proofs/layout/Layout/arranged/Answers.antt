use Rattle.std.proofs.Common.{rules}
use Rattle.fx_outputs.specs.declared.shuffle.Shuffle.TheVariants.{Kept, Default, Seed}
use Rattle.fx_plan.proofs.Wholes.{plan_by}
use Rattle.fx_plan.proofs.layout.Layout.arranged.Goals as goal

pub returns-in-Kept-clause-plan : goal.returns-in-Kept-clause-plan
returns-in-Kept-clause-plan c =
    rw (plan_by c.args.self.now.factors.now c.args.self.now.runs.now c.args.self.now.output.now
    c.args.self.now.inner.now
    c.args.self.now.outer.now c.args.seed c.in_ok-order.order.items _
    Kept (search rules)
    (cc (c.in_ok-order.ensures.order, c.in_ok-rows.ensures))
    c.in_ok-values.ensures.values) at c.ordered.ensures.plan

pub returns-in-Default-clause-plan : goal.returns-in-Default-clause-plan
returns-in-Default-clause-plan c =
    rw (plan_by c.args.self.now.factors.now c.args.self.now.runs.now c.args.self.now.output.now
    c.args.self.now.inner.now
    c.args.self.now.outer.now c.args.seed c.in_ok-order.order.items
    _ (Default c.in-Default.too) (search rules)
    (cc (c.in_ok-order.ensures.order, c.in_ok-rows.ensures))
    c.in_ok-values.ensures.values) at c.shuffled.ensures.plan

pub returns-in-Seed-clause-plan : goal.returns-in-Seed-clause-plan
returns-in-Seed-clause-plan c =
    rw (plan_by c.args.self.now.factors.now c.args.self.now.runs.now c.args.self.now.output.now
    c.args.self.now.inner.now
    c.args.self.now.outer.now c.args.seed c.in_ok-order.order.items
    _ (Seed c.in-Seed.own c.in-Seed.too) (search rules)
    (cc (c.in_ok-order.ensures.order, c.in_ok-rows.ensures))
    c.in_ok-values.ensures.values) at c.shuffled-in-Seed.ensures.plan

use Rattle.std.proofs.Common.{map}
use Rattle.std.proofs.Common.{rules}
use Rattle.fx_plan.specs.Draws.{generator}
use Rattle.fx_plan.proofs.Wholes.{shuffled_parts}
use Rattle.fx_plan.proofs.layout.Layout.shuffled.Goals as goal

pub returns-clause-plan : goal.returns-clause-plan
returns-clause-plan c =
    let h = rw (c.len-each.ensures, c.seed_from_u64-rng.ensures) at c.in_ok-order.ensures.shuffled in
    rw (shuffled_parts c.args.self.now.factors.now c.args.self.now.runs.now c.args.self.now.output.now
    c.args.self.now.inner.now c.args.self.now.outer.now (generator c.args.seed) c.shuffled_in_blocks.new.rng
    c.args.too c.args.order.items c.in_ok-order.order.items
    (map (λ v. v.items) c.args.values.items) (map (λ v. v.items) c.shuffled_values-values.result.items)
    (rw c.as_slice.ensures.value at h) (search rules)) at c.ordered.ensures.plan

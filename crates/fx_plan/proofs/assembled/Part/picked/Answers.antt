use Rattle.std.proofs.Common.{◌<◌, All, length, sym, subst}
use Rattle.fx_plan.proofs.Parts.{count, picked_low, picked_twice}
use Rattle.fx_plan.proofs.assembled.Part.picked.Goals as goal

pub invariant_of-result : goal.invariant_of-result
invariant_of-result c =
    let made =
    rw c.as_slice.ensures.value at c.in_ok-rows.ensures in
    subst (All (λ r. r < length c.self.inside.table.rows)) (sym made)
    (picked_low c.args.by.now c.self.inside.rows.items c.self.inside.table c.args.self c.self.view_is c.self.invariant
    c.requires)

pub returns : goal.returns
returns c =
    let t = c.self.inside.table in
    let rows = c.self.inside.rows.items in
    let made =
    rw c.as_slice.ensures.value at c.in_ok-rows.ensures in
    let there =
    rw (count rows t c.args.self c.self.view_is) at c.requires in
    cc (picked_twice c.args.by.now rows t there, c.self.view_is)

use Rattle.std.proofs.Common.{sym}
use Rattle.fx_judge.proofs.kinship.kinship_of.Goals as goal

pub returns : goal.returns
returns c =
    let e = c.field.ensures.field in
    cc (c.kinship_by.ensures c.args.plan.now.rows c.args.u.now c.args.v.now (sym c.len.ensures.count)
    (rw (← e) at c.counts_of-left.ensures)
    (rw (← e) at c.counts_of-right.ensures)
    (rw (← e) at c.pairs_of-pairs.ensures))

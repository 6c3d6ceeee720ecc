use Rattle.std.proofs.Common.{sym}
use Rattle.fx_judge.proofs.pairs.kinship_between.Goals as goal

pub returns : goal.returns
returns c =
    let e = c.field.ensures.field in
    cc (c.kinship_by.ensures c.args.plan.now.rows c.args.u.now.component c.args.v.now.component
    (sym c.len.ensures.count)
    (rw (← e) at c.requires.first.counts)
    (rw (← e) at c.requires.second.counts)
    (rw (← e) at c.tally_pairs-pairs.ensures))

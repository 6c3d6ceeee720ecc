use Rattle.std.proofs.Common.{◌<◌, All, subst, arith}
use Rattle.std.proofs.lemmas.List.{take_all}
use Rattle.std.proofs.lemmas.List.Elements.{All-more}
use Rattle.fx_table_rules.proofs.rules.are_below.Goals as goal

pub loop-row-preserved : goal.loop-row-preserved
loop-row-preserved c =
    All-more (λ r. r < c.args.runs) c.args.rows.now c.loop-row.row-index 0 (omega arith) c.loop-row.invariant
    (let e = c.if-row-runs.false in omega arith)

pub returns : goal.returns
returns c = λ yes. subst (All (λ r. r < c.args.runs))
    (take_all c.loop-row.row-index c.args.rows.now (let e = c.loop-row-test.false in omega arith)) c.loop-row.invariant

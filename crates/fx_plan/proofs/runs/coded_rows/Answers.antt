use Rattle.fx_plan.specs.Coded.{row_codes}
use Rattle.fx_plan.proofs.Lists.{numbers_more}
use Rattle.fx_plan.proofs.runs.coded_rows.Goals as goal

pub loop-k-preserved : goal.loop-k-preserved
loop-k-preserved c =
    cc (
      c.in_ok-push_row.ensures,
      c.loop-k.invariant,
      c.in_ok-run_codes.ensures,
      numbers_more
          (row_codes c.args.layout.now.runs.now c.args.columns.now) c.loop-k.k,
    )

use Rattle.fx_plan.specs.Tables.{block_field}
use Rattle.fx_plan.proofs.Lists.{numbers_more}
use Rattle.fx_plan.proofs.runs.block_fields.Goals as goal

pub loop-z-preserved : goal.loop-z-preserved
loop-z-preserved c =
    let field = block_field c.args.layout.now.output.now.block_values in
    cc (c.in_ok-put_field.ensures, c.loop-z.invariant, numbers_more field c.loop-z.z)

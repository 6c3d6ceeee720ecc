use Rattle.std.proofs.Common.{◌≡◌, ap}
use Rattle.fx_derived.specs.Tables.{TableView}
use Rattle.fx_outputs.specs.declared.output.OutputSpec.{OutputSpec}
use Rattle.fx_plan.specs.Products.{plain_output, plan_of, repeats}
use Rattle.fx_plan.specs.Tables.{text_of_table}
use Rattle.fx_plan.proofs.plain.plain_plan.Goals as goal

pub returns : goal.returns
returns c =
    let plan : OutputSpec → TableView → TableView → TableView =
    λ output inner outer. plan_of c.args.factors.now c.args.runs.now output 0 inner outer in
    let once = repeats 1 in
    let made : c.in_ok-plan.plan ≡ plan plain_output once once =
    cc (c.in_ok-plan.ensures, c.plain_output-output.ensures, c.repeats-inner.ensures, c.repeats-outer.ensures) in
    rw (ap text_of_table made) at c.table_text.ensures

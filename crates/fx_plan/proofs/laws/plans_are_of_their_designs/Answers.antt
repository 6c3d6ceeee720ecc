use Rattle.std.proofs.Common.{◌∙◌, cond, eqb, length}
use Rattle.fx_runs.specs.Runs.{design_of}
use Rattle.fx_plan.specs.Products.{arrangement_of, run_of}
use Rattle.fx_plan.proofs.Designs.{design-runs, row-count, run-count, values-reordered}
use Rattle.fx_plan.proofs.Repeating.{plan_total, run_total}
use Rattle.fx_plan.proofs.laws.plans_are_of_their_designs.Goals as goal

pub returns-clause-rows : goal.returns-clause-rows
returns-clause-rows c names matrix output seed inner outer known whole =
    row-count names matrix output seed inner outer known whole

pub returns-clause-as_often : goal.returns-clause-as_often
returns-clause-as_often c matrix output seed inner outer k known whole low =
    let runs = design_of matrix in
    let each = length inner.rows in
    let all = length outer.rows in
    let order = (arrangement_of runs output seed inner outer).order in
    let own = rw (← (run-count matrix)) at low in
    let often =
    plan_total (λ r. cond (eqb (run_of each (length runs.rows) r) k) 1 0) runs output seed inner outer
    (design-runs matrix known whole)
    ∙ run_total _ each all k own in
    rw (← (run-count matrix)) often

pub returns-clause-values : goal.returns-clause-values
returns-clause-values c runs output seed inner outer = values-reordered runs output seed inner outer

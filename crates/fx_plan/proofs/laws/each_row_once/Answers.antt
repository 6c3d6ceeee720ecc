use Rattle.std.proofs.Common.{◌∙◌, cond, eqb, length}
use Rattle.fx_plan.specs.Products.{run_of}
use Rattle.fx_plan.proofs.Repeating.{plan_total, run_total}
use Rattle.fx_plan.proofs.laws.each_row_once.Goals as goal

pub returns-clause-reordered : goal.returns-clause-reordered
returns-clause-reordered c runs output seed inner outer test h =
    plan_total (λ x. cond (test x) 1 0) runs output seed inner outer h

pub returns-clause-as_often : goal.returns-clause-as_often
returns-clause-as_often c runs output seed inner outer k h low =
    plan_total (λ r. cond (eqb (run_of (length inner.rows) (length runs.rows) r) k) 1 0) runs output seed inner outer h
    ∙ run_total _ (length inner.rows) (length outer.rows) k low

use Rattle.fx_judge.proofs.Texts.{fault_told, plan_told}
use Rattle.fx_judge.proofs.reading.read_plan.Goals as goal

pub returns-clause-plan : goal.returns-clause-plan
returns-clause-plan c =
    plan_told c.args.field c.args.text.now c.requires c.read_text.result c.read_text.ensures.none
    c.read_text.ensures.plan

pub returns-clause-refused : goal.returns-clause-refused
returns-clause-refused c =
    fault_told c.args.field c.args.text.now c.requires c.read_text.result c.read_text.ensures.refused

use Rattle.fx_program_laws.proofs.ReadBack.{listed_back, planned_back, planned_rules_back}
use Rattle.fx_program_laws.proofs.laws.listed_rules_are_read_back.Goals as goal

pub returns-clause-rules : goal.returns-clause-rules
returns-clause-rules c text = listed_back text

pub returns-clause-plan : goal.returns-clause-plan
returns-clause-plan c text step matrix h = planned_back text step matrix h

pub returns-clause-given : goal.returns-clause-given
returns-clause-given c text = planned_rules_back text

use Rattle.fx_outputs.proofs.NamedPlans.{all_earlier}
use Rattle.fx_outputs.proofs.laws.named_plans_are_earlier.Goals as goal

pub returns : goal.returns
returns c = all_earlier

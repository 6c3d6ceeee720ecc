use Rattle.fx_outputs.proofs.NamedPlans.{all_few}
use Rattle.fx_outputs.proofs.laws.plans_keep_the_limit.Goals as goal

pub returns : goal.returns
returns c = all_few

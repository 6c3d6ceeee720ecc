use Rattle.fx_judge.proofs.Unrelated.{never_partial}
use Rattle.fx_judge.proofs.laws.regular_plans_have_no_partial_pair.Goals as goal

pub returns : goal.returns
returns c = never_partial

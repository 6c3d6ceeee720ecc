use Rattle.fx_catalogue.proofs.Claimed.{budget-ends}
use Rattle.fx_catalogue.proofs.laws.budget_ends_where_passed.Goals as goal

pub returns : goal.returns
returns c shape budget = budget-ends shape budget

use Rattle.fx_strata.proofs.Once.{compare_once}
use Rattle.fx_strata.proofs.laws.named_orders_compare_once.Goals as goal

pub returns : goal.returns
returns c = λ x. compare_once x

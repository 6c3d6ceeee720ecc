use Rattle.fx_laws.proofs.Tables.{is_order-field}
use Rattle.fx_strata.proofs.Fewer.{fewer_factors}
use Rattle.fx_strata.proofs.laws.fewer_factors.Goals as goal

pub returns : goal.returns
returns c = λ x known. fewer_factors x (is_order-field x.q known)

use Rattle.fx_laws.proofs.Tables.{is_order-field}
use Rattle.fx_strata.proofs.Isomorphic.{isomorphic_are_alike, alike_have_one_key, isomorphic_are_least}
use Rattle.fx_strata.proofs.laws.isomorphic_designs_are_least.Goals as goal

pub returns-clause-alike : goal.returns-clause-alike
returns-clause-alike c = λ x known. isomorphic_are_alike x (is_order-field x.q known)

pub returns-clause-key : goal.returns-clause-key
returns-clause-key c = λ x order. alike_have_one_key x order

pub returns-clause-least : goal.returns-clause-least
returns-clause-least c = λ x order known. isomorphic_are_least x order (is_order-field x.q known)

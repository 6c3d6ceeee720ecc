use Rattle.fx_laws.proofs.Tables.{is_order-field}
use Rattle.fx_table_rules.proofs.Ruled.{rules_are_alike, rules_have_key, rules_are_least}
use Rattle.fx_table_rules.proofs.laws.rules_give_the_design.Goals as goal

pub returns-clause-alike : goal.returns-clause-alike
returns-clause-alike c = λ x known. rules_are_alike x (is_order-field x.q known)

pub returns-clause-key : goal.returns-clause-key
returns-clause-key c = λ x order known. rules_have_key x order (is_order-field x.q known)

pub returns-clause-least : goal.returns-clause-least
returns-clause-least c = λ x order known. rules_are_least x order (is_order-field x.q known)

use Rattle.fx_laws.proofs.Tables.{is_order-field}
use Rattle.fx_strata.proofs.Ordinary.{less_patterns, matrices_are_designs}
use Rattle.fx_strata.proofs.laws.rule_matrices_are_ordinary_designs.Goals as goal

pub returns-clause-pattern : goal.returns-clause-pattern
returns-clause-pattern c = λ d known pattern none. less_patterns d (is_order-field d.q known) none pattern none

pub returns-clause-none : goal.returns-clause-none
returns-clause-none c = λ d known none. matrices_are_designs d (is_order-field d.q known) none none

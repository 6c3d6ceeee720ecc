use Rattle.fx_laws.proofs.Tables.{is_order-field}
use Rattle.fx_alias.proofs.ClassNumbers.{constant_number, aliased_number}
use Rattle.fx_alias.proofs.laws.aliased_where_class_numbers_agree.Goals as goal

pub returns-clause-constant : goal.returns-clause-constant
returns-clause-constant c q m rows u known = constant_number q (is_order-field q known) m rows u

pub returns-clause-aliased : goal.returns-clause-aliased
returns-clause-aliased c q m rows u v known apart = aliased_number q (is_order-field q known) m rows u v apart

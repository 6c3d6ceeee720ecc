use Rattle.fx_laws.proofs.Tables.{is_order-field}
use Rattle.fx_galois.proofs.laws.each_order_has_a_field.Goals as goal

pub returns : goal.returns
returns c = is_order-field

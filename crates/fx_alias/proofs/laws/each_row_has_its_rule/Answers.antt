use Rattle.fx_laws.proofs.Tables.{is_order-field}
use Rattle.fx_alias.proofs.RuleLines.{its_rule}
use Rattle.fx_alias.proofs.laws.each_row_has_its_rule.Goals as goal

pub returns : goal.returns
returns c d wanted factors rows k known can long count low =
    its_rule d (is_order-field d.q known) wanted factors rows k can long count low

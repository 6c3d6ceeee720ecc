use Rattle.fx_laws.proofs.Tables.{is_order-field}
use Rattle.fx_tree.proofs.RuleLevels.{levels}
use Rattle.fx_tree.proofs.laws.rules_give_the_levels.Goals as goal

pub returns : goal.returns
returns c d wanted rows row p known can none h = levels d (is_order-field d.q known) wanted rows row p can none h

use Rattle.fx_laws.proofs.Tables.{is_order-field}
use Rattle.fx_tree.proofs.RuleLevels.{combinations}
use Rattle.fx_tree.proofs.laws.introducing_rows_are_a_full_factorial.Goals as goal

pub returns : goal.returns
returns c d wanted rows levels known can h = combinations d (is_order-field d.q known) wanted rows levels can h

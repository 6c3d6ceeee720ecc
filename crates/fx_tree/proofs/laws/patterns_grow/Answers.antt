use Rattle.fx_laws.proofs.Tables.{is_order-field}
use Rattle.fx_tree.proofs.Patterns.{longer}
use Rattle.fx_tree.proofs.laws.patterns_grow.Goals as goal

pub returns : goal.returns
returns c = λ p order rows more. longer p (is_order-field p.dimensions.q order) rows more

use Rattle.fx_statements.proofs.Readings.{model_law}
use Rattle.fx_statements.proofs.laws.model_is_read_by_the_grammar.Goals as goal

pub returns : goal.returns
returns c = model_law

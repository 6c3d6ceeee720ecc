use Rattle.fx_outputs.proofs.OptionCuts.{options_law}
use Rattle.fx_outputs.proofs.laws.names_are_read_by_the_grammar.Goals as goal

pub returns : goal.returns
returns c = options_law

use Rattle.fx_text.proofs.Sentences.{are_accepted}
use Rattle.fx_text.proofs.laws.statements_are_those_of_the_grammar.Goals as goal

pub returns : goal.returns
returns c = are_accepted

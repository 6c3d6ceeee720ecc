use Rattle.fx_statements.proofs.Sections.{sections_law}
use Rattle.fx_statements.proofs.laws.sections_are_read_by_the_grammar.Goals as goal

pub returns : goal.returns
returns c = sections_law

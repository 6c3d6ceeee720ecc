use Rattle.fx_settings.proofs.ItemReadings.{items_law, folded_items_law}
use Rattle.fx_settings.proofs.laws.items_are_read_by_the_grammar.Goals as goal

pub returns-clause-factors : goal.returns-clause-factors
returns-clause-factors c = items_law

pub returns-clause-foldover : goal.returns-clause-foldover
returns-clause-foldover c = folded_items_law

use Rattle.std.proofs.lemmas.List.{get_or-replicate}
use Rattle.fx_table_check.proofs.effects.zeros.Goals as goal

pub returns-clause-zeros : goal.returns-clause-zeros
returns-clause-zeros c = λ i low. get_or-replicate 1024 i 0 0 low

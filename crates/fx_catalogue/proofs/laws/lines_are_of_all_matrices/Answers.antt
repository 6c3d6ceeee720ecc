use Rattle.fx_catalogue.proofs.Claimed.{holds, nothing-where-none}
use Rattle.fx_catalogue.proofs.laws.lines_are_of_all_matrices.Goals as goal

pub returns-clause-claims : goal.returns-clause-claims
returns-clause-claims c shape budget shaped free = holds shape shaped free budget

pub returns-clause-none : goal.returns-clause-none
returns-clause-none c shape budget shaped free within none = nothing-where-none shape shaped free budget within none

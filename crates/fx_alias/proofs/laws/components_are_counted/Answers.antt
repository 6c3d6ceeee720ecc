use Rattle.fx_alias.proofs.Lengths.{length-components}
use Rattle.fx_alias.proofs.laws.components_are_counted.Goals as goal

pub returns : goal.returns
returns c q s d = length-components q s d

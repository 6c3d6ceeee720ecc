use Rattle.fx_outputs.proofs.Names.{all_differ}
use Rattle.fx_outputs.proofs.laws.out_names_differ.Goals as goal

pub returns : goal.returns
returns c = all_differ

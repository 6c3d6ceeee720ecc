use Rattle.fx_outputs.proofs.Names.{all_have_names}
use Rattle.fx_outputs.proofs.laws.outputs_have_names.Goals as goal

pub returns : goal.returns
returns c = all_have_names

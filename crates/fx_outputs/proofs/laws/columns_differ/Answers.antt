use Rattle.fx_outputs.proofs.DifferentColumns.{all_differ}
use Rattle.fx_outputs.proofs.laws.columns_differ.Goals as goal

pub returns : goal.returns
returns c context earlier statements outputs factors files = all_differ context factors earlier statements outputs files

use Rattle.fx_settings.proofs.Names.{factor_names}
use Rattle.fx_settings.proofs.laws.factors_have_names.Goals as goal

pub returns : goal.returns
returns c = factor_names

use Rattle.fx_rules.proofs.SamePlaces.{same_places}
use Rattle.fx_rules.proofs.laws.blanks_keep_places.Goals as goal

pub returns : goal.returns
returns c = same_places

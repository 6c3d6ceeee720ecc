use Rattle.fx_laws.proofs.Tables.{is_order-field}
use Rattle.fx_reduction.proofs.BlockedResolutions.{none-higher}
use Rattle.fx_reduction.proofs.resolutions.no_higher_resolution_is_met.Goals as goal

pub returns : goal.returns
returns c d known = none-higher d (is_order-field d.q known)

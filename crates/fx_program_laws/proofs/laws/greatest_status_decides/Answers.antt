use Rattle.fx_program.proofs.Statuses.{is_greatest}
use Rattle.fx_program_laws.proofs.laws.greatest_status_decides.Goals as goal

pub returns : goal.returns
returns c seed steps = is_greatest seed steps

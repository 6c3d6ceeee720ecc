use Rattle.fx_program_laws.proofs.Messages.{each_fault}
use Rattle.fx_program_laws.proofs.laws.faults_have_a_message_and_a_place.Goals as goal

pub returns : goal.returns
returns c = each_fault

use Rattle.fx_program_laws.proofs.MadeSteps.{made_program}
use Rattle.fx_program_laws.proofs.laws.made_texts_are_programs.Goals as goal

pub returns : goal.returns
returns c n few = made_program n few

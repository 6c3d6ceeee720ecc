use Rattle.fx_program_laws.proofs.GivenDesigns.{given_designs}
use Rattle.fx_program_laws.proofs.laws.given_designs_in_any_text.Goals as goal

pub returns : goal.returns
returns c text = given_designs text

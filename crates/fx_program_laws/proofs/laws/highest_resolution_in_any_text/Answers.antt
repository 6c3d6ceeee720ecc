use Rattle.fx_answer.specs.StepClaims.{HasHighestOfAll, OfOutcome}
use Rattle.fx_program.proofs.AnyText.{any_text}
use Rattle.fx_answer.proofs.Best.{highest_of_all}
use Rattle.fx_program_laws.proofs.laws.highest_resolution_in_any_text.Goals as goal

pub returns : goal.returns
returns c = any_text (OfOutcome HasHighestOfAll) highest_of_all

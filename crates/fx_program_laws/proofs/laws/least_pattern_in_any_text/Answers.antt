use Rattle.fx_answer.specs.StepClaims.{HasLeastOfAll, OfOutcome}
use Rattle.fx_program.proofs.AnyText.{any_text}
use Rattle.fx_answer.proofs.Best.{least_of_all}
use Rattle.fx_program_laws.proofs.laws.least_pattern_in_any_text.Goals as goal

pub returns : goal.returns
returns c = any_text (OfOutcome HasLeastOfAll) least_of_all

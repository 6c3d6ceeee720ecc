use Rattle.fx_answer.specs.StepClaims.{HasLeastSize, OfOutcome}
use Rattle.fx_program.proofs.AnyText.{any_text}
use Rattle.fx_answer.proofs.Best.{least_size}
use Rattle.fx_program_laws.proofs.laws.least_size_in_any_text.Goals as goal

pub returns : goal.returns
returns c = any_text (OfOutcome HasLeastSize) least_size

use Rattle.fx_answer.specs.StepClaims.{HasNoneAtAll, OfOutcome}
use Rattle.fx_program.proofs.AnyText.{any_text}
use Rattle.fx_answer.proofs.Best.{none_at_all}
use Rattle.fx_program_laws.proofs.laws.no_design_in_any_text.Goals as goal

pub returns : goal.returns
returns c = any_text (OfOutcome HasNoneAtAll) none_at_all

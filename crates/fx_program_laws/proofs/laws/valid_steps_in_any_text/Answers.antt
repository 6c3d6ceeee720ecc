use Rattle.fx_answer.specs.ValidSteps.{IsValidStep}
use Rattle.fx_program.proofs.AnyText.{any_text}
use Rattle.fx_program_laws.proofs.laws.valid_steps_in_any_text.Goals as goal

pub returns : goal.returns
returns c = any_text IsValidStep (λ step valid. valid)

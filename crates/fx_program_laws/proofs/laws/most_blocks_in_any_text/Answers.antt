use Rattle.fx_answer.specs.StepClaims.{HasMostBlocks, OfOutcome}
use Rattle.fx_program.proofs.AnyText.{any_text}
use Rattle.fx_answer.proofs.Best.{most_blocks}
use Rattle.fx_program_laws.proofs.laws.most_blocks_in_any_text.Goals as goal

pub returns : goal.returns
returns c = any_text (OfOutcome HasMostBlocks) most_blocks

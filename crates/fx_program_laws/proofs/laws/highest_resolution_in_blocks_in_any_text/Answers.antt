use Rattle.fx_answer.specs.StepClaims.{HasHighestInBlocks, MeetsWhatItReached, OfOutcome}
use Rattle.fx_program.proofs.AnyText.{any_text}
use Rattle.fx_answer.proofs.Best.{highest_in_blocks, meets_reached}
use Rattle.fx_program_laws.proofs.laws.highest_resolution_in_blocks_in_any_text.Goals as goal

pub returns-clause-met : goal.returns-clause-met
returns-clause-met c = any_text (OfOutcome MeetsWhatItReached) meets_reached

pub returns-clause-highest : goal.returns-clause-highest
returns-clause-highest c = any_text (OfOutcome HasHighestInBlocks) highest_in_blocks

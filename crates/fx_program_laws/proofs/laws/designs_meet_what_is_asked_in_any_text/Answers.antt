use Rattle.fx_answer.specs.StepClaims.{LeavesNoneOfLeastSize, OfOutcome}
use Rattle.fx_answer.proofs.Best.{none_left}
use Rattle.fx_program.specs.Claims.{HasMatrixAsAsked}
use Rattle.fx_program.proofs.AnyText.{any_text}
use Rattle.fx_program_laws.proofs.Listed.{matrix_as_asked}
use Rattle.fx_program_laws.proofs.laws.designs_meet_what_is_asked_in_any_text.Goals as goal

pub returns-clause-as_asked : goal.returns-clause-as_asked
returns-clause-as_asked c = any_text HasMatrixAsAsked matrix_as_asked

pub returns-clause-none_left : goal.returns-clause-none_left
returns-clause-none_left c = any_text (OfOutcome LeavesNoneOfLeastSize) none_left

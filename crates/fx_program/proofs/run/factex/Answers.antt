use Rattle.std.proofs.Common.{◌∙◌}
use Rattle.fx_answer.specs.StepClaims.{ClaimsHold, OfOutcome}
use Rattle.fx_answer.proofs.Best.{claims_hold}
use Rattle.fx_program.proofs.AnyText.{any_text}
use Rattle.fx_program.proofs.CatalogueClaims.{catalogued}
use Rattle.fx_program.proofs.PlanClaims.{planned}
use Rattle.fx_program.proofs.Commands.{accepted, given, none_at_all, read_to_end}
use Rattle.fx_program.proofs.run.factex.Goals as goal

pub returns-clause-output : goal.returns-clause-output
returns-clause-output g c = rw c.exit_status.ensures (given c.read_words.ensures.settings c.carry_out.ensures.done)

pub returns-clause-none_at_all : goal.returns-clause-none_at_all
returns-clause-none_at_all g c =
    rw c.exit_status.ensures (none_at_all c.read_words.ensures.settings c.carry_out.ensures.done)

pub returns-clause-claims : goal.returns-clause-claims
returns-clause-claims g c low text run = any_text (OfOutcome ClaimsHold) claims_hold text

pub returns-clause-accepted : goal.returns-clause-accepted
returns-clause-accepted g c =
    rw c.exit_status.ensures (accepted c.read_words.ensures.settings c.carry_out.ensures.done)

pub returns-clause-catalogued : goal.returns-clause-catalogued
returns-clause-catalogued g c =
    rw c.exit_status.ensures
    (λ low q m most threads nodes is.
    catalogued q m most threads nodes (c.read_words.ensures.settings ∙ is) c.read_words.ensures.shapes
    c.carry_out.ensures.done low)

pub returns-clause-planned : goal.returns-clause-planned
returns-clause-planned g c =
    rw c.exit_status.ensures
    (λ low seed is text left. planned seed (c.read_words.ensures.settings ∙ is) c.carry_out.ensures.done low text left)

pub returns-clause-read_to_end : goal.returns-clause-read_to_end
returns-clause-read_to_end g c =
    rw c.exit_status.ensures (read_to_end c.read_words.ensures.settings c.carry_out.ensures.done)

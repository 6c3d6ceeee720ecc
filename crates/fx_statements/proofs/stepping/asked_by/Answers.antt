use Rattle.std.proofs.Common.{◌≡◌, ℕ, List, Ok, Err, length, sym, ◌∙◌}
use Rattle.fx_text.specs.declared.refusal.Refusal.{Refusal}
use Rattle.fx_text.specs.declared.refusal.ParseStop.{ParseStop}
use Rattle.fx_text.specs.declared.refusal.ParseStop.TheVariants as stop
use Rattle.fx_text.specs.Written.{Written}
use Rattle.fx_text.specs.Refusals.{IsRefused}
use Rattle.fx_settings.specs.declared.said.StepSaid.{StepSaid}
use Rattle.fx_settings.specs.declared.settings.StepSettings.{StepSettings}
use Rattle.fx_settings.specs.Settings.{unblocked_of, step_settings_of}
use Rattle.fx_designs.specs.Problems.{Requirement}
use Rattle.fx_statements.specs.Requirements.{requirement_by}
use Rattle.fx_statements.specs.Steps.{asked_by}
use Rattle.fx_statements.specs.Components.{check_components, components_place}
use Rattle.fx_statements.proofs.Bounds.{kept, levels_said, without}
use Rattle.fx_statements.proofs.Listed.{few_components}
use Rattle.fx_text.proofs.Stops.{refused, stopped}
use Rattle.fx_statements.proofs.stepping.asked_by.Goals as goal

-- the meaning of what is asked, part by part
module _ (factors : List (List ℕ)) (said : StepSaid) (statements : List (List Written)) where
  at_settings : (refusal : Refusal) → Err refusal ≡ unblocked_of (length factors) said
      → asked_by factors said statements ≡ Err refusal
  at_settings refusal e = rw (← e)

  module _ (unblocked : StepSettings) (one : Ok unblocked ≡ unblocked_of (length factors) said) where
    at_requirement : (reason : ParseStop)
        → IsRefused (requirement_by unblocked.q factors statements unblocked.criterion) reason
        → IsRefused (asked_by factors said statements) reason
    at_requirement reason h =
        rw (← one) (stopped _ _ reason h)

    module _ (requirement : Requirement) (settings : StepSettings)
        (two : requirement_by unblocked.q factors statements unblocked.criterion ≡ Ok requirement)
        (three : Ok settings ≡ step_settings_of unblocked said) where
      at_listing : (refusal : Refusal)
          → Err refusal ≡ check_components unblocked.q (length factors) requirement (components_place statements)
          → asked_by factors said statements ≡ Err refusal
      at_listing refusal e = rw (← one, two, ← three, ← e)

      all_asked : Ok tt ≡ check_components unblocked.q (length factors) requirement (components_place statements)
          → asked_by factors said statements ≡ Ok (settings, requirement)
      all_asked e = rw (← one, two, ← three, ← e)

pub returns-in_err-unblocked-clause-refused : goal.returns-in_err-unblocked-clause-refused
returns-in_err-unblocked-clause-refused c =
    refused _ _ _ c.from_residual.ensures.1
    (at_settings c.args.factors.now c.args.said c.args.statements.now _ c.in_err-unblocked.ensures.value)

pub returns-in_err-demands-clause-refused : goal.returns-in_err-demands-clause-refused
returns-in_err-demands-clause-refused c =
    refused _ _ c.in_err-demands.field-0.0 c.from_residual-in_err-demands.ensures.1
    (at_requirement c.args.factors.now c.args.said c.args.statements.now c.in_ok-unblocked.unblocked
    c.in_ok-unblocked.ensures.value _ c.in_err-demands.ensures.refused)

pub returns-in_err-check_components-clause-refused : goal.returns-in_err-check_components-clause-refused
returns-in_err-check_components-clause-refused c =
    refused _ _ _ c.from_residual-in_err-check_components.ensures.1
    (at_listing c.args.factors.now c.args.said c.args.statements.now c.in_ok-unblocked.unblocked
    c.in_ok-unblocked.ensures.value _ _ c.in_ok-demands.ensures.requirement c.in_ok-settings.ensures.value _
    c.in_err-check_components.ensures)

pub returns-clause-asked : goal.returns-clause-asked
returns-clause-asked c =
    all_asked c.args.factors.now c.args.said c.args.statements.now c.in_ok-unblocked.unblocked
    c.in_ok-unblocked.ensures.value _ _ c.in_ok-demands.ensures.requirement c.in_ok-settings.ensures.value
    c.in_ok-check_components.ensures

pub returns-clause-settings_valid : goal.returns-clause-settings_valid
returns-clause-settings_valid c =
    c.in_ok-settings.ensures.valid (length c.args.factors.now) (sym c.in_ok-unblocked.ensures.value)

pub returns-clause-kind : goal.returns-clause-kind
returns-clause-kind c =
    rw (kept c.in_ok-unblocked.unblocked c.args.said c.in_ok-settings.settings (sym c.in_ok-settings.ensures.value)).0
    c.in_ok-demands.ensures.kind

pub returns-clause-askable : goal.returns-clause-askable
returns-clause-askable c =
    rw (kept c.in_ok-unblocked.unblocked c.args.said c.in_ok-settings.settings (sym c.in_ok-settings.ensures.value)).1
    c.in_ok-demands.ensures.askable

pub returns-clause-unblocked : goal.returns-clause-unblocked
returns-clause-unblocked c =
    λ none. without c.in_ok-unblocked.unblocked c.args.said c.in_ok-settings.settings none
    (sym c.in_ok-settings.ensures.value)

pub returns-clause-few_components : goal.returns-clause-few_components
returns-clause-few_components c =
    rw (kept c.in_ok-unblocked.unblocked c.args.said c.in_ok-settings.settings (sym c.in_ok-settings.ensures.value)).1
    (few_components c.in_ok-unblocked.unblocked.q _ _
    c.args.statements.now (sym c.in_ok-check_components.ensures))

pub returns-clause-levels : goal.returns-clause-levels
returns-clause-levels c =
    (kept c.in_ok-unblocked.unblocked c.args.said c.in_ok-settings.settings
    (sym c.in_ok-settings.ensures.value)).1
    ∙ levels_said _ c.args.said c.in_ok-unblocked.unblocked
    (sym c.in_ok-unblocked.ensures.value)

-- The steps of a text, one after another.
use Rattle.std.proofs.Common.{◌≡◌, ℕ, suc, ◌+◌, ◌-◌, ◌<◌, true, not, List, [], ◌∷◌, ◌++◌, length, take, drop, get_or}
use Rattle.std.proofs.Common.{Some, Ok, sym, ap, ◌∙◌, arith}
use Rattle.std.specs.List.{prefix_len}
use Rattle.std.proofs.Math.Seq.{drop-cons}
use Rattle.std.proofs.Math.Numerals.{add-one}
use Rattle.fx_designs.specs.Problems.{Requirement}
use Rattle.fx_language.specs.declared.symbol.Symbol.TheVariants.{Proc}
use Rattle.fx_text.specs.Written.{Written, begins}
use Rattle.fx_text.specs.Statements.{ends_step, rest_of_step, steps_of}
use Rattle.fx_text.specs.declared.refusal.ParseStop.{ParseStop}
use Rattle.fx_text.specs.declared.refusal.ParseStop.TheVariants as stop
use Rattle.fx_text.specs.Refusals.{IsRefused, ◌>>=◌}
use Rattle.fx_outputs.specs.declared.earlier.EarlierPlan.{EarlierPlan}
use Rattle.fx_outputs.specs.Outputs.{outputs_of}
use Rattle.fx_outputs.specs.declared.output.OutputSpec.{OutputSpec}
use Rattle.fx_settings.specs.declared.settings.StepSettings.{StepSettings}
use Rattle.fx_settings.specs.Said.{step_said}
use Rattle.fx_text.specs.Phrases.{start_of}
use Rattle.fx_statements.specs.declared.fold.Fold.{Fold}
use Rattle.fx_statements.specs.Contexts.{context}
use Rattle.fx_statements.specs.Folds.{fold_of}
use Rattle.fx_statements.specs.Steps.{Meaning, asked_by, examine_of, factors_by, head_of, factor_limit, step_by}
use Rattle.fx_statements.specs.Steps.{plans_after, step_of}
use Rattle.fx_text.proofs.Stops.{stopped}
use Rattle.fx_statements.specs.Programs.{steps_behind}

module _ (statements : List (List Written)) (i len : ℕ) (d : List Written) (h : i < length statements) where
  abbrev proc : List Written
  proc = get_or statements i d

  abbrev rest : List (List Written)
  rest = drop (i + 1) statements

  from_here : drop i statements ≡ proc ∷ rest
  from_here = rw (add-one i) (drop-cons statements i d h)

  slice : len ≡ prefix_len (λ s. not (ends_step s)) rest
      → take (i + (1 + len) - i) (drop i statements) ≡ proc ∷ rest_of_step rest
  slice e =
      let long : i + (1 + len) - i ≡ suc len = omega arith in
      cc from_here

  step_here : begins Proc proc ≡ true → steps_of (drop i statements) ≡ (proc ∷ rest_of_step rest) ∷ steps_of rest
  step_here e =
      cc from_here

  pub one_step : (earlier : List EarlierPlan) (done : List Meaning) (meaning : Meaning) → begins Proc proc ≡ true
      → len ≡ prefix_len (λ s. not (ends_step s)) rest
      → step_of earlier (take (i + (1 + len) - i) (drop i statements)) ≡ Ok meaning
      → steps_behind earlier done (steps_of (drop i statements))
      ≡ steps_behind (plans_after earlier meaning) (done ++ meaning ∷ []) (steps_of rest)
  one_step earlier done meaning e long is =
      ap (steps_behind earlier done) (step_here e)
      ∙ ap (λ r. r >>= (λ (m : Meaning). steps_behind (plans_after earlier m) (done ++ m ∷ []) (steps_of rest)))
      (ap (step_of earlier) (sym (slice long)) ∙ is)

  -- a step that is refused
  pub step_refused : (earlier : List EarlierPlan) (done : List Meaning) → begins Proc proc ≡ true
      → len ≡ prefix_len (λ s. not (ends_step s)) rest
      → (reason : ParseStop) → IsRefused (step_of earlier (take (i + (1 + len) - i) (drop i statements))) reason
      → IsRefused (steps_behind earlier done (steps_of (drop i statements))) reason
  step_refused earlier done e long reason h =
      rw (step_here e) (stopped _ _ reason (rw (slice long) at h))

-- one step, from its parts
module _ (earlier : List EarlierPlan) (statements : List (List Written)) (named : List Written)
    (factors : List (List ℕ))
    (settings : StepSettings) (requirement : Requirement) (fold : Fold) (outputs : List OutputSpec)
    (is_named : factors_by (start_of (head_of statements)) (factor_limit named statements) named ≡ Ok factors)
    (is_asked : asked_by factors (step_said (head_of statements) named statements) statements
    ≡ Ok (settings, requirement))
    (is_fold : fold_of factors settings statements ≡ Ok fold)
    (are_outputs : outputs_of (context factors settings) earlier statements ≡ Ok outputs) where
  pub step_is : step_by earlier statements (Some named)
      ≡ Ok (record {
        factors = factors;
        settings = settings;
        requirement = requirement;
        examine = examine_of statements;
        fold = fold;
        outputs = outputs;
      })
  step_is = rw (is_named, is_asked, is_fold, are_outputs)

-- a step whose settings are refused
pub settings_refused : (earlier : List EarlierPlan) (statements : List (List Written)) (named : List Written)
    (factors : List (List ℕ))
    → factors_by (start_of (head_of statements)) (factor_limit named statements) named ≡ Ok factors
    → (reason : ParseStop)
    → IsRefused (asked_by factors (step_said (head_of statements) named statements) statements) reason
    → IsRefused (step_by earlier statements (Some named)) reason
settings_refused earlier statements named factors is_named reason h =
    rw is_named (stopped _ _ reason h)

-- a step whose fold or whose outputs are refused
module _ (earlier : List EarlierPlan) (statements : List (List Written)) (named : List Written)
    (factors : List (List ℕ))
    (settings : StepSettings) (requirement : Requirement)
    (is_named : factors_by (start_of (head_of statements)) (factor_limit named statements) named ≡ Ok factors)
    (is_asked : asked_by factors (step_said (head_of statements) named statements) statements
    ≡ Ok (settings, requirement)) where
  pub fold_refused : (reason : ParseStop) → IsRefused (fold_of factors settings statements) reason
      → IsRefused (step_by earlier statements (Some named)) reason
  fold_refused (stop.Refused refusal) h = rw (is_named, is_asked, h)
  fold_refused stop.NoMemory h = tt

  pub outputs_refused : (fold : Fold) → fold_of factors settings statements ≡ Ok fold → (reason : ParseStop)
      → IsRefused (outputs_of (context factors settings) earlier statements) reason
      → IsRefused (step_by earlier statements (Some named)) reason
  outputs_refused fold is_fold (stop.Refused refusal) h = rw (is_named, is_asked, is_fold, h)
  outputs_refused fold is_fold stop.NoMemory h = tt

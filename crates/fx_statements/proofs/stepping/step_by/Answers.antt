use Rattle.std.proofs.Common.{◌≡◌, ℕ, ◌≤◌, Ok, List, length, sym, ap, subst, ◌∙◌, arith}
use Rattle.std.proofs.lemmas.Result.{err_from_is_err_and}
use Rattle.std.specs.List.{IsDistinct}
use Rattle.std.specs.Prelude.{is_some}
use Rattle.fx_language.specs.declared.symbol.Symbol.TheVariants as word
use Rattle.fx_text.specs.Names.{is_same_name}
use Rattle.fx_settings.specs.Said.{step_said}
use Rattle.fx_text.specs.Phrases.{start_of}
use Rattle.fx_settings.specs.Settings.{levels_of}
use Rattle.fx_settings.specs.declared.said.StepSaid.{StepSaid}
use Rattle.fx_outputs.specs.Earlier.{plan_names}
use Rattle.fx_outputs.specs.Histories.{built}
use Rattle.fx_outputs.specs.Outputs.{outputs_of, plan_behind}
use Rattle.fx_outputs.proofs.Names.{all_differ, all_have_names, built_names}
use Rattle.fx_text.proofs.Distinct.{behind_differ}
use Rattle.fx_statements.proofs.Parts.{named_factors}
use Rattle.fx_statements.specs.Contexts.{context}
use Rattle.fx_statements.specs.Folds.{fold_of}
use Rattle.fx_vectors.specs.Question.{requirement_of}
use Rattle.fx_statements.specs.Valid.{most_factors_of}
use Rattle.fx_statements.specs.Steps.{asked_by, examine_of, factors_by, head_of, factor_limit}
use Rattle.fx_statements.proofs.Bounds.{counted, unsaid}
use Rattle.fx_statements.proofs.StepByStep.{step_is, settings_refused, fold_refused, outputs_refused}
use Rattle.fx_text.proofs.Stops.{refused, stopped}
use Rattle.fx_text.specs.Statements.{statement_of}
use Rattle.fx_text.specs.Written.{Written}
use Rattle.fx_statements.proofs.stepping.step_by.Goals as goal

-- the limit that is worked out is that of the step
limit : (head : List Written) {n q : ℕ} {said : StepSaid} (statements : List (List Written)) (own : List Written)
    → n ≡ most_factors_of q (is_some (statement_of word.Blocks statements)) → q ≡ levels_of said
    → said ≡ step_said head own statements → n ≡ factor_limit own statements
limit head statements own value levels is =
    cc

pub invariant_of-result : goal.invariant_of-result
invariant_of-result c =
    let statements = c.args.statements.now in
    let settings = c.in_ok-settings.settings in
    let demands = c.in_ok-settings.demands in
    let factors = c.in_ok-factors.factors in
    let s = ap length c.as_slice.ensures in
    let read =
    c.context_of-context.ensures ∙ ap (λ factors. context factors settings) c.as_slice-3.ensures in
    let outputs = c.in_ok-outputs.outputs in
    record {
      factor_count =
          counted settings.q statements _ _
          (λ none. c.in_ok-settings.ensures.unblocked
          (unsaid c.head_of-proc.result c.args.named.now statements c.step_said-said.result c.step_said-said.ensures
          none))
          c.in_ok-factors.ensures.bounds.0
          (subst (λ q. length c.in_ok-factors.factors
          ≤ most_factors_of q (is_some (statement_of word.Blocks statements)))
          (c.levels_of.ensures ∙ sym c.in_ok-settings.ensures.levels)
          (omega (arith, c.in_ok-factors.ensures.bounds.1, c.factor_limit.ensures.value)));
      distinct = c.in_ok-factors.ensures.distinct;
      settings_valid = c.in_ok-settings.ensures.settings_valid;
      kind = c.in_ok-settings.ensures.kind;
      effects_askable =
          rw s at c.in_ok-settings.ensures.askable;
      outputs_within_limits =
          rw read at c.in_ok-outputs.ensures.within_limits;
      factor_names =
          named_factors c.place.result c.factor_limit.result c.args.named.now factors c.requires.by_grammar
          c.requires.names c.in_ok-factors.ensures.factors;
      few_components =
          rw c.examine_of.ensures (rw s at c.in_ok-settings.ensures.few_components);
      fold_fits =
          rw (ap length c.as_slice-2.ensures) at c.in_ok-fold.ensures.fits;
      output_names =
          rw read at
          (all_have_names c.context_of-context.result c.args.earlier.now statements outputs c.requires.accepted
          c.in_ok-outputs.ensures.ok);
      out_names_differ =
          behind_differ _ _
          (all_differ c.context_of-context.result c.args.earlier.now statements outputs c.requires.differ
          c.in_ok-outputs.ensures.ok);
    }

pub returns-clause-step : goal.returns-clause-step
returns-clause-step c =
    let statements = c.args.statements.now in
    let named = c.args.named.now in
    let factors = c.in_ok-factors.factors in
    let settings = c.in_ok-settings.settings in
    let requirement = requirement_of c.in_ok-settings.demands in
    let is_named : factors_by (start_of (head_of statements)) (factor_limit named statements) named ≡ Ok factors =
    cc (
      c.place.ensures,
      c.head_of-proc.ensures,
      limit c.head_of-proc.result statements named
          c.factor_limit.ensures.value c.levels_of.ensures
          c.step_said-said.ensures,
      c.in_ok-factors.ensures.factors,
    ) in
    let is_asked : asked_by factors (step_said (head_of statements) named statements) statements
    ≡ Ok (settings, requirement) =
    cc (c.as_slice.ensures, c.step_said-said.ensures, c.head_of-proc.ensures, c.in_ok-settings.ensures.asked) in
    let is_fold : fold_of factors settings statements ≡ Ok c.in_ok-fold.fold =
    cc (c.as_slice-2.ensures, c.in_ok-fold.ensures.ok) in
    let are_outputs : outputs_of (context factors settings) c.args.earlier.now statements ≡ Ok c.in_ok-outputs.outputs =
    cc (c.context_of-context.ensures, c.as_slice-3.ensures, c.in_ok-outputs.ensures.ok) in
    rw c.examine_of.ensures
    (step_is c.args.earlier.now statements named factors settings requirement c.in_ok-fold.fold
    c.in_ok-outputs.outputs is_named is_asked is_fold are_outputs)

pub returns-in_err-outputs-clause-refused : goal.returns-in_err-outputs-clause-refused
returns-in_err-outputs-clause-refused c =
    let statements = c.args.statements.now in
    let named = c.args.named.now in
    let factors = c.in_ok-factors.factors in
    let settings = c.in_ok-settings.settings in
    let is_named : factors_by (start_of (head_of statements)) (factor_limit named statements) named ≡ Ok factors =
    cc (
      c.place.ensures,
      c.head_of-proc.ensures,
      limit c.head_of-proc.result statements named
          c.factor_limit.ensures.value c.levels_of.ensures
          c.step_said-said.ensures,
      c.in_ok-factors.ensures.factors,
    ) in
    let is_asked : asked_by factors (step_said (head_of statements) named statements) statements
    ≡ Ok (settings, requirement_of c.in_ok-settings.demands) =
    cc (c.as_slice.ensures, c.step_said-said.ensures, c.head_of-proc.ensures, c.in_ok-settings.ensures.asked) in
    let is_fold : fold_of factors settings statements ≡ Ok c.in_ok-fold.fold =
    cc (c.as_slice-2.ensures, c.in_ok-fold.ensures.ok) in
    let refused =
    rw (c.context_of-context.ensures ∙ ap (λ names. context names settings) c.as_slice-3.ensures) at
    c.in_err-outputs.ensures.refused in
    let p = err_from_is_err_and c.from_residual-in_err-outputs.result c.from_residual-in_err-outputs.ensures.1 in
    rw (p.1, p.2)
    (outputs_refused c.args.earlier.now statements named factors settings _
    is_named is_asked
    c.in_ok-fold.fold is_fold c.in_err-outputs.field-0.0 refused)

pub returns-in_err-fold-clause-refused : goal.returns-in_err-fold-clause-refused
returns-in_err-fold-clause-refused c =
    let statements = c.args.statements.now in
    let named = c.args.named.now in
    let factors = c.in_ok-factors.factors in
    let settings = c.in_ok-settings.settings in
    let is_named : factors_by (start_of (head_of statements)) (factor_limit named statements) named ≡ Ok factors =
    cc (
      c.place.ensures,
      c.head_of-proc.ensures,
      limit c.head_of-proc.result statements named
          c.factor_limit.ensures.value c.levels_of.ensures
          c.step_said-said.ensures,
      c.in_ok-factors.ensures.factors,
    ) in
    let is_asked : asked_by factors (step_said (head_of statements) named statements) statements
    ≡ Ok (settings, requirement_of c.in_ok-settings.demands) =
    cc (c.as_slice.ensures, c.step_said-said.ensures, c.head_of-proc.ensures, c.in_ok-settings.ensures.asked) in
    let p = err_from_is_err_and c.from_residual-in_err-fold.result c.from_residual-in_err-fold.ensures.1 in
    rw (p.1, p.2)
    (fold_refused c.args.earlier.now statements named factors settings _
    is_named is_asked
    c.in_err-fold.field-0.0 (rw c.as_slice-2.ensures at c.in_err-fold.ensures.refused))

pub returns-clause-differ : goal.returns-clause-differ
returns-clause-differ c =
    subst (IsDistinct is_same_name)
    (sym (ap plan_names c.in_ok-outputs.ensures.plans
    ∙ built_names c.context_of-context.result c.args.earlier.now c.in_ok-outputs.outputs))
    (all_differ c.context_of-context.result c.args.earlier.now c.args.statements.now c.in_ok-outputs.outputs
    c.requires.differ c.in_ok-outputs.ensures.ok)

pub returns-in_err-factors-clause-refused : goal.returns-in_err-factors-clause-refused
returns-in_err-factors-clause-refused c =
    let statements = c.args.statements.now in
    let factors =
    rw (
      c.place.ensures ∙ ap start_of c.head_of-proc.ensures,
      limit c.head_of-proc.result statements c.args.named.now c.factor_limit.ensures.value c.levels_of.ensures
          c.step_said-said.ensures,
    ) at
    c.in_err-factors.ensures.refused in
    refused _ _ c.in_err-factors.field-0.0 c.from_residual.ensures.1
    (stopped _ _
    _ factors)

pub returns-in_err-settings-clause-refused : goal.returns-in_err-settings-clause-refused
returns-in_err-settings-clause-refused c =
    let statements = c.args.statements.now in
    let is_named =
    rw (
      c.place.ensures ∙ ap start_of c.head_of-proc.ensures,
      limit c.head_of-proc.result statements c.args.named.now c.factor_limit.ensures.value c.levels_of.ensures
          c.step_said-said.ensures,
    ) at
    c.in_ok-factors.ensures.factors in
    let said = c.step_said-said.ensures ∙ ap (λ p. step_said p c.args.named.now statements) c.head_of-proc.ensures in
    refused _ _ c.in_err-settings.field-0.0 c.from_residual-in_err-settings.ensures.1
    (settings_refused c.args.earlier.now statements c.args.named.now c.in_ok-factors.factors is_named
    c.in_err-settings.field-0.0
    (rw (c.as_slice.ensures, said) at c.in_err-settings.ensures.refused))

pub returns-clause-plans : goal.returns-clause-plans
returns-clause-plans c =
    let settings = c.in_ok-settings.settings in
    let factors = c.in_ok-factors.factors in
    let read = c.context_of-context.ensures ∙ ap (λ names. context names settings) c.as_slice-3.ensures in
    c.in_ok-outputs.ensures.plans
    ∙ ap (λ x. built (plan_behind x) c.args.earlier.now c.in_ok-outputs.outputs) read

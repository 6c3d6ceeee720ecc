-- Whatever a text says, each of its steps is valid, so that what is claimed of valid steps holds of each.
use Rattle.std.proofs.Common.{◌≡◌, ◌≤◌, ◌++◌, Bool, true, false, ℕ, List, [], ◌∷◌, length, Option, Some, None, Result}
use Rattle.std.proofs.Common.{Ok, Err, refl, sym, subst, arith, All, ◌∙◌}
use Rattle.std.specs.Prelude.{is_some, nat_lt, if◌then◌else◌}
use Rattle.std.proofs.lemmas.List.Elements.{All-nil, All-push}
use Rattle.fx_designs.specs.Problems.{Requirement, AtResolution}
use Rattle.fx_lexer.specs.declared.token.Token.{Token}
use Rattle.fx_lexer.specs.declared.token.LexFault.{LexFault}
use Rattle.fx_lexer.specs.Lexing.{lexed}
use Rattle.fx_language.specs.Keywords.{symbols_of}
use Rattle.fx_language.specs.FirstRefusal.{first_refusal}
use Rattle.fx_language.specs.declared.symbol.Symbol.TheVariants as word
use Rattle.fx_lexer.specs.declared.place.Place.{Place}
use Rattle.fx_text.specs.declared.refusal.Refusal.{Refusal}
use Rattle.fx_text.specs.Written.{Written, written}
use Rattle.fx_text.specs.Statements.{statement_of, statements_of, steps_of}
use Rattle.fx_text.proofs.Chains.{bind_ok, same_ok}
use Rattle.fx_settings.specs.Factors as named
use Rattle.fx_outputs.specs.declared.earlier.EarlierPlan.{EarlierPlan}
use Rattle.fx_outputs.specs.Outputs.{outputs_of}
use Rattle.fx_settings.specs.declared.settings.StepSettings.{StepSettings}
use Rattle.fx_settings.specs.declared.settings.Criterion.{Criterion}
use Rattle.fx_settings.specs.declared.settings.Criterion.TheVariants as criterion
use Rattle.fx_settings.specs.declared.said.StepSaid.{StepSaid}
use Rattle.fx_settings.specs.Said.{step_said}
use Rattle.fx_text.specs.Phrases.{start_of}
use Rattle.fx_settings.specs.Settings.{step_settings_of, unblocked_of, levels_of}
use Rattle.fx_settings.specs.Valid.{are_valid}
use Rattle.fx_settings.proofs.Valid.{valid}
use Rattle.fx_effects.specs.Models.{lists_of}
use Rattle.fx_statements.specs.Contexts.{context}
use Rattle.fx_statements.specs.Folds.{fold_of}
use Rattle.fx_statements.specs.Components.{check_components, components_place}
use Rattle.fx_statements.specs.Requirements.{IsOfKind, effects_by, effects_required, requirement_by}
use Rattle.fx_statements.specs.Steps.{Meaning, asked_by, examine_of, factors_by, head_of, factor_limit, some_factors}
use Rattle.fx_statements.specs.Steps.{plans_after, step_by, step_of}
use Rattle.fx_statements.specs.Programs.{accepted, program_of, steps_behind}
use Rattle.fx_statements.specs.Valid.{CanBeRequired, is_count, most_factors_of}
use Rattle.fx_statements.proofs.Bounds.{counted, kept, levels_said, most_of_all, unsaid, without}
use Rattle.fx_settings.proofs.Within.{factors_within}
use Rattle.fx_effects.proofs.Within.{lists_told}
use Rattle.fx_program.specs.Texts.{at_front, or_refused, program_by, program_in}
use Rattle.fx_program.specs.Claims.{EachStep}
use Rattle.fx_answer.specs.ValidSteps.{IsValidStep}
use Rattle.fx_vectors.specs.declared.shape.TheConstants.{MOST_FACTORS}

-- a requirement of this kind, whose effects may be asked for
abbrev IsFit : ℕ → ℕ → Criterion → Requirement → Type 0
IsFit q s kind requirement = IsOfKind kind requirement × CanBeRequired q s requirement

by_lists : (q : ℕ) (factors : List (List ℕ)) → length factors ≤ MOST_FACTORS → (s : List Written)
    (requirement : Requirement)
    → effects_by q factors s ≡ Ok requirement
    → IsFit q (length factors) criterion.Effects requirement
by_lists q factors few s requirement e =
    let lists = bind_ok (lists_of q factors s) _ requirement e in
    subst (IsFit q (length factors) criterion.Effects) (same_ok _ requirement lists.2)
    (refl, lists_told factors few q s lists.0 lists.1)

by_model : (q : ℕ) (factors : List (List ℕ)) → length factors ≤ MOST_FACTORS
    → (model : Option (List Written)) (requirement : Requirement)
    → effects_required q factors model ≡ Ok requirement
    → IsFit q (length factors) criterion.Effects requirement
by_model q factors few None requirement e = by_lists q factors few [] requirement e
by_model q factors few (Some s) requirement e = by_lists q factors few s requirement e

fit : (q : ℕ) (factors : List (List ℕ)) → length factors ≤ MOST_FACTORS
    → (statements : List (List Written)) (kind : Criterion) (requirement : Requirement)
    → requirement_by q factors statements kind ≡ Ok requirement
    → IsFit q (length factors) kind requirement
fit q factors few statements (criterion.Resolution r) requirement e =
    subst (IsFit q (length factors) (criterion.Resolution r)) (same_ok (AtResolution r) requirement e) (refl, tt)
fit q factors few statements criterion.Highest requirement e =
    subst (IsFit q (length factors) criterion.Highest) (same_ok (AtResolution 3) requirement e) (refl, tt)
fit q factors few statements criterion.Effects requirement e =
    by_model q factors few (statement_of word.Model statements) requirement e

-- what is read of a step with these factors
abbrev IsRead : List (List ℕ) → StepSettings × Requirement → Type 0
IsRead factors asked =
    (are_valid asked.0 ≡ true) × IsFit asked.0.q (length factors) asked.0.criterion asked.1
    × (is_count asked.0.q (length factors) asked.0.blocks ≡ true)

asked_read : (factors : List (List ℕ)) (head named : List Written) (statements : List (List Written))
    (asked : StepSettings × Requirement) → 1 ≤ length factors
    → length factors ≤ factor_limit named statements
    → asked_by factors (step_said head named statements) statements ≡ Ok asked → IsRead factors asked
asked_read factors head named statements asked one few e =
    let said : StepSaid = step_said head named statements in
    let first = bind_ok (unblocked_of (length factors) said) _ asked e in
    let required = bind_ok (requirement_by first.0.q factors statements first.0.criterion) _ asked first.2 in
    let settings = bind_ok (step_settings_of first.0 said) _ asked required.2 in
    let listed =
    bind_ok (check_components first.0.q (length factors) required.0 (components_place statements)) _ asked settings.2 in
    let same = kept first.0 said settings.0 settings.1 in
    let levels : settings.0.q ≡ levels_of said = same.1 ∙ levels_said (length factors) said first.0 first.1 in
    let most = most_of_all (levels_of said) (is_some (statement_of word.Blocks statements)) in
    let short : length factors ≤ MOST_FACTORS = omega (arith, few, most) in
    subst (IsRead factors) (same_ok (settings.0, required.0) asked listed.2) (
      valid (length factors) said first.0 settings.0 first.1 settings.1,
      subst (λ kind. IsFit settings.0.q (length factors) kind required.0) (sym same.0)
          (subst (λ q. IsFit q (length factors) first.0.criterion required.0) (sym same.1)
          (fit first.0.q factors short statements first.0.criterion required.0 required.1)),
      counted settings.0.q statements (length factors) settings.0.blocks
          (λ none. without first.0 said settings.0 (unsaid head named statements said refl none) settings.1) one
          (subst (λ q. length factors ≤ most_factors_of q (is_some (statement_of word.Blocks statements))) (sym levels)
          few),
    )

pub some_same : (proc : Place) (found factors : List (List ℕ)) → some_factors proc found ≡ Ok factors → found ≡ factors
some_same proc [] factors e = absurd (cc e)
some_same proc (name ∷ found) factors e = same_ok (name ∷ found) factors e

some_named : (proc : Place) (found factors : List (List ℕ)) → some_factors proc found ≡ Ok factors → 1 ≤ length factors
some_named proc [] factors e = absurd (cc e)
some_named proc (name ∷ found) factors e =
    subst (λ (l : List (List ℕ)). 1 ≤ length l) (same_ok (name ∷ found) factors e) (omega arith)

-- what holds of each valid step holds of each step of a text
module _ (Claimed : Meaning → Type 0) (claim : (step : Meaning) → IsValidStep step → Claimed step) where
  step_read : (earlier : List EarlierPlan) (statements : List (List Written)) (factors : Option (List Written))
      (step : Meaning)
      → step_by earlier statements factors ≡ Ok step → Claimed step
  step_read earlier statements None step e = absurd (cc e)
  step_read earlier statements (Some given) step e =
      let proc = start_of (head_of statements) in
      let factors = bind_ok (factors_by proc (factor_limit given statements) given) _ step e in
      let found =
      bind_ok (named.names_of_factors (factor_limit given statements) given) (some_factors proc) factors.0 factors.1 in
      let asked =
      bind_ok (asked_by factors.0 (step_said (head_of statements) given statements) statements) _ step factors.2 in
      let fold = bind_ok (fold_of factors.0 asked.0.0 statements) _ step asked.2 in
      let outputs = bind_ok (outputs_of (context factors.0 asked.0.0) earlier statements) _ step fold.2 in
      let whole : Meaning =
      record {
        factors = factors.0;
        settings = asked.0.0;
        requirement = asked.0.1;
        examine = examine_of statements;
        fold = fold.0;
        outputs = outputs.0;
      } in
      let one = some_named proc found.0 factors.0 found.2 in
      let few : length factors.0 ≤ factor_limit given statements =
      subst (λ (l : List (List ℕ)). length l ≤ factor_limit given statements) (some_same proc found.0 factors.0 found.2)
      (factors_within (factor_limit given statements) given found.0 found.1) in
      let read = asked_read factors.0 (head_of statements) given statements asked.0 one few asked.1 in
      subst Claimed (same_ok whole step outputs.2)
      (claim whole (record { settings = read.0; kind = read.1.0; factors = read.2; effects = read.1.1 }))

  -- step by step
  all_read : (earlier : List EarlierPlan) (done : List Meaning) (groups : List (List (List Written)))
      (steps : List Meaning) → All Claimed done
      → steps_behind earlier done groups ≡ Ok steps → All Claimed steps
  all_read earlier done [] steps all e = subst (All Claimed) (same_ok done steps e) all
  all_read earlier done (group ∷ groups) steps all e =
      let step = bind_ok (step_of earlier group) _ steps e in
      all_read (plans_after earlier step.0) (done ++ step.0 ∷ []) groups steps
      (All-push Claimed done step.0 all (step_read earlier group (statement_of word.Factors group) step.0 step.1))
      step.2

  accepted_read : (text : List ℕ) (tokens : List Token) (refused : Option (ℕ × ℕ)) (steps : List Meaning)
      → accepted text tokens refused ≡ Ok steps
      → All Claimed steps
  accepted_read text tokens (Some refused) steps e = absurd (cc e)
  accepted_read text tokens None steps e =
      all_read [] [] (steps_of (statements_of (written text tokens))) steps (All-nil Claimed) e

  program_read : (text : List ℕ) (tokens : List Token) (steps : List Meaning) → program_of text tokens ≡ Ok steps
      → All Claimed steps
  unfolding program_of
  program_read text tokens steps e = accepted_read text tokens (first_refusal (symbols_of text tokens)) steps e

  all_told : (program : Result (List Meaning) Refusal)
      → ((steps : List Meaning) → program ≡ Ok steps → All Claimed steps) → EachStep Claimed (or_refused program)
  all_told (Ok steps) all = all steps refl
  all_told (Err refusal) all = tt

  lexed_told : (text : List ℕ) (tokens : Result (List Token) LexFault) → EachStep Claimed (program_by text tokens)
  lexed_told text (Ok tokens) = all_told (program_of text tokens) (program_read text tokens)
  lexed_told text (Err fault) = tt

  short_told : (text : List ℕ) (b : Bool)
      → EachStep Claimed (if b then Err (at_front 25) else program_by text (lexed text))
  short_told text true = tt
  short_told text false = lexed_told text (lexed text)

  pub any_text : (text : List ℕ) → EachStep Claimed (program_in text)
  unfolding program_in
  any_text text = short_told text (nat_lt 1048576 (length text))

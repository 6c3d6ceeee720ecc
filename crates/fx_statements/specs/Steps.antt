-- What a step means.
use Rattle.std.specs.Prelude.{ℕ, ◌&&◌, Bool, List, [], ◌∷◌, length, is_some, Option, Some, None, Result, Ok, Err}
use Rattle.std.specs.List.{list_any}
use Rattle.fx_designs.specs.Problems.{Requirement}
use Rattle.fx_language.specs.declared.code.TheConstants.{NO_FACTORS}
use Rattle.fx_language.specs.declared.symbol.Symbol.{Symbol}
use Rattle.fx_language.specs.declared.symbol.Symbol.TheVariants as word
use Rattle.fx_text.specs.declared.refusal.Refusal.{Refusal}
use Rattle.fx_lexer.specs.declared.place.Place.{Place}
use Rattle.fx_text.specs.Written.{Written, begins}
use Rattle.fx_text.specs.Statements.{statement_of}
use Rattle.fx_text.specs.Refusals.{refused_at, ◌>>=◌}
use Rattle.fx_settings.specs.Factors.{names_of_factors}
use Rattle.fx_settings.specs.declared.settings.StepSettings.{StepSettings}
use Rattle.fx_settings.specs.declared.said.StepSaid.{StepSaid}
use Rattle.fx_settings.specs.Said.{step_said, levels_said}
use Rattle.fx_text.specs.Phrases.{has_symbol, start_of}
use Rattle.fx_settings.specs.Settings.{step_settings_of, unblocked_of, number_or}
use Rattle.fx_outputs.specs.declared.earlier.EarlierPlan.{EarlierPlan}
use Rattle.fx_outputs.specs.declared.output.OutputSpec.{OutputSpec}
use Rattle.fx_outputs.specs.Histories.{built}
use Rattle.fx_outputs.specs.Outputs.{outputs_of, plan_behind}
use Rattle.fx_statements.specs.declared.examine.Examine.{Examine}
use Rattle.fx_statements.specs.declared.fold.Fold.{Fold}
use Rattle.fx_statements.specs.declared.step.Step.{Step}
use Rattle.fx_statements.specs.Folds.{fold_of}
use Rattle.fx_statements.specs.Requirements.{requirement_by}
use Rattle.fx_statements.specs.Components.{check_components, components_place}
use Rattle.fx_statements.specs.Valid.{most_factors_of}
use Rattle.fx_vectors.specs.Question.{requirement_of}
use Rattle.fx_statements.specs.Contexts.{context}

-- a step, without where its parts lie in memory
pub record Meaning : Type 0 where
  pub factors : List (List ℕ)
  pub settings : StepSettings
  pub requirement : Requirement
  pub examine : Examine
  pub fold : Fold
  pub outputs : List OutputSpec

-- how many factors a step may have, by its FACTORS statement, which says their levels, and whether there are blocks
abbrev pub factor_limit : List Written → List (List Written) → ℕ
factor_limit named statements =
    most_factors_of (number_or 2 (levels_said named)) (is_some (statement_of word.Blocks statements))

-- E7 where there are none: `proc` is the place of PROC
abbrev pub some_factors : Place → List (List ℕ) → Result (List (List ℕ)) Refusal
some_factors proc [] = Err (refused_at NO_FACTORS proc)
some_factors proc (name ∷ names) = Ok (name ∷ names)

-- the factors by a FACTORS statement, at most so many
abbrev pub factors_by : Place → ℕ → List Written → Result (List (List ℕ)) Refusal
factors_by proc most named = names_of_factors most named >>= some_factors proc

-- an EXAMINE statement has this word
abbrev pub asks : Symbol → List (List Written) → Bool
asks section statements = list_any (λ s. begins word.Examine s && has_symbol section s) statements

-- the sections that are asked for
abbrev pub examine_of : List (List Written) → Examine
examine_of statements = record {
  aliasing = asks word.Aliasing statements;
  blocked = asks word.Blocked statements;
  design = asks word.Design statements;
  aberration = asks word.Aberration statements;
}

-- the first of some statements
abbrev pub head_of : List (List Written) → List Written
head_of [] = []
head_of (s ∷ statements) = s

-- the settings of a step with these factors, and what it requires, by what its statements say
abbrev pub asked_by : List (List ℕ) → StepSaid → List (List Written) → Result (StepSettings × Requirement) Refusal
asked_by factors said statements = do
  unblocked ← unblocked_of (length factors) said
  requirement ← requirement_by unblocked.q factors statements unblocked.criterion
  settings ← step_settings_of unblocked said
  listed ← check_components unblocked.q (length factors) requirement (components_place statements)
  Ok (settings, requirement)

-- The meaning of a step, after these plans, by its FACTORS statement where it has one.
abbrev pub step_by : List EarlierPlan → List (List Written) → Option (List Written) → Result Meaning Refusal
step_by earlier statements None = Err (refused_at NO_FACTORS (start_of (head_of statements)))
step_by earlier statements (Some named) = do
  factors ← factors_by (start_of (head_of statements)) (factor_limit named statements) named
  asked ← asked_by factors (step_said (head_of statements) named statements) statements
  fold ← fold_of factors asked.0 statements
  outputs ← outputs_of (context factors asked.0) earlier statements
  Ok (record {
    factors = factors;
    settings = asked.0;
    requirement = asked.1;
    examine = examine_of statements;
    fold = fold;
    outputs = outputs;
  })

-- the meaning of a step, whose PROC statement is first
abbrev pub step_of : List EarlierPlan → List (List Written) → Result Meaning Refusal
step_of earlier statements = step_by earlier statements (statement_of word.Factors statements)

-- the plans of a program after a step
abbrev pub plans_after : List EarlierPlan → Meaning → List EarlierPlan
plans_after earlier meaning =
    built (plan_behind (context meaning.factors meaning.settings)) earlier meaning.outputs

-- what of a step it is
abbrev pub meaning_of : Step → Meaning
meaning_of step = record {
  factors = step.factors;
  settings = step.settings;
  requirement = requirement_of step.demands;
  examine = step.examine;
  fold = step.fold;
  outputs = step.outputs;
}

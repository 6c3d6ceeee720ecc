-- What a text means: a list of steps, or the first refusal.
use Rattle.std.specs.Prelude.{ℕ, ◌++◌, List, [], ◌∷◌, slice_get, Option, Some, None, Result, Ok, Err}
use Rattle.std.specs.List.{flat_map}
use Rattle.fx_lexer.specs.declared.token.Token.{Token}
use Rattle.fx_lexer.specs.Places.{line_after, column_after}
use Rattle.fx_language.specs.Keywords.{symbols_of}
use Rattle.fx_language.specs.FirstRefusal.{first_refusal}
use Rattle.fx_lexer.specs.declared.place.Place.{Place}
use Rattle.fx_text.specs.declared.refusal.Refusal.{Refusal}
use Rattle.fx_text.specs.Written.{Written, written}
use Rattle.fx_text.specs.Statements.{statements_of, steps_of}
use Rattle.fx_text.specs.Refusals.{refused_at, ◌>>=◌}
use Rattle.fx_outputs.specs.declared.earlier.EarlierPlan.{EarlierPlan}
use Rattle.fx_outputs.specs.Outputs.{names_of}
use Rattle.fx_statements.specs.declared.step.Step.{Step}
use Rattle.fx_statements.specs.Steps.{Meaning, plans_after, step_of}

-- the meanings of some steps, after these plans and these meanings
abbrev pub steps_behind : List EarlierPlan → List Meaning → List (List (List Written)) → Result (List Meaning) Refusal
steps_behind earlier done [] = Ok done
steps_behind earlier done (step ∷ steps) =
    step_of earlier step
    >>= (λ (meaning : Meaning). steps_behind (plans_after earlier meaning) (done ++ meaning ∷ []) steps)

-- the meaning of what is written in an accepted text
abbrev pub meaning_of_all : List (List Written) → Result (List Meaning) Refusal
meaning_of_all statements = steps_behind [] [] (steps_of statements)

-- the OUT names of some steps
abbrev pub out_names : List Step → List (List ℕ)
out_names steps = flat_map (λ (step : Step). names_of step.outputs) steps

-- the place of a token, and after the last one that of the end of the text
abbrev pub place_in : List ℕ → Option Token → Place
place_in text None = record { line = line_after text; column = column_after text }
place_in text (Some t) = record { line = t.line; column = t.column }

-- the first symbol that the grammar or a rule on repeated words refuses comes before what the steps mean
abbrev pub accepted : List ℕ → List Token → Option (ℕ × ℕ) → Result (List Meaning) Refusal
accepted text tokens (Some refused) = Err (refused_at refused.0 (place_in text (slice_get tokens refused.1)))
accepted text tokens None = meaning_of_all (statements_of (written text tokens))

-- the program of a text with these tokens
unfoldable pub program_of : List ℕ → List Token → Result (List Meaning) Refusal
program_of text tokens = accepted text tokens (first_refusal (symbols_of text tokens))

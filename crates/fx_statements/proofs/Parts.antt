-- What holds of the statements of an accepted text, and of its names.
use Rattle.std.proofs.Common.{◌≡◌, ℕ, Bool, true, false, List, [], ◌∷◌, ◌++◌, Option, Some, None, Result, Ok, refl}
use Rattle.std.proofs.Common.{◌∙◌, append_assoc}
use Rattle.std.specs.Prelude.{All, if◌then◌else◌}
use Rattle.std.proofs.lemmas.List.{append-nil}
use Rattle.std.specs.List.{AllByRecursion}
use Rattle.fx_language.specs.declared.symbol.Symbol.{Symbol}
use Rattle.fx_language.specs.Grammar.{program}
use Rattle.fx_language.specs.Grammar as grammar
use Rattle.fx_language.specs.Refusals.{refused}
use Rattle.fx_language.specs.FirstRefusal.{earlier, first_refusal}
use Rattle.fx_lexer.specs.declared.place.Place.{Place}
use Rattle.fx_text.specs.declared.refusal.Refusal.{Refusal}
use Rattle.fx_text.specs.Names.{IsName}
use Rattle.fx_text.specs.Sentences.{HasNames, IsStatement}
use Rattle.fx_text.specs.Statements.{statement_of}
use Rattle.fx_text.specs.Written.{Written, begins}
use Rattle.fx_text.proofs.Chains.{bind_ok}
use Rattle.fx_settings.specs.Factors.{names_of_factors}
use Rattle.fx_settings.proofs.Names.{factor_names}
use Rattle.fx_outputs.specs.Outputs.{names_of}
use Rattle.fx_statements.specs.declared.step.Step.{Step}
use Rattle.fx_statements.specs.Programs.{out_names}
use Rattle.fx_statements.specs.Steps.{factors_by, some_factors}

-- of the statement that begins with a word too
pub found : (P : List Written → Type 0) (word : Symbol) (statements : List (List Written)) (s : List Written)
    → AllByRecursion P statements
    → statement_of word statements ≡ Some s → P s × (begins word s ≡ true)
found P word [] s h e = cc e
found P word (x ∷ statements) s h e = by_start _ refl e (found P word statements s h.1)
  where
    by_start : (b : Bool) → begins word x ≡ b → (if b then Some x else statement_of word statements) ≡ Some s
        → (statement_of word statements ≡ Some s → P s × (begins word s ≡ true)) → P s × (begins word s ≡ true)
    by_start true begun e later = let same : x ≡ s = cc e in rw (← same) (h.0, begun)
    by_start false other e later = later e

no_earlier : (a b : Option (ℕ × ℕ)) → earlier a b ≡ None → a ≡ None
no_earlier None b e = refl
no_earlier (Some x) None e = cc e
no_earlier (Some x) (Some y) e = absurd (either_way _ e)
  where
    either_way : (b : Bool) → (if b then Some y else Some x) ≡ None → ⊥
    either_way true e = cc e
    either_way false e = cc e

-- where nothing is refused, the grammar refuses nothing
pub none_refused : (symbols : List Symbol) → first_refusal symbols ≡ None → refused 0 program symbols ≡ None
none_refused symbols e = no_earlier _ _ e

-- the factors that are accepted have names
pub named_factors : (proc : Place) (most : ℕ) (named : List Written) (factors : List (List ℕ))
    → IsStatement grammar.factors named → HasNames named
    → factors_by proc most named ≡ Ok factors → All IsName factors
named_factors proc most named factors by_grammar names e =
    let read = bind_ok (names_of_factors most named) (some_factors proc) factors e in
    factor_names most named factors by_grammar names (read.1 ∙ some read.0 read.2)
  where
    some : (all : List (List ℕ)) → some_factors proc all ≡ Ok factors
        → ◌≡◌ {A = Result (List (List ℕ)) Refusal} (Ok all) (Ok factors)
    some [] e = cc e
    some (x ∷ all) e = e

-- the OUT names of steps, with those of one more
pub names_of_more : (steps : List Step) (step : Step)
    → out_names (steps ++ step ∷ []) ≡ out_names steps ++ names_of step.outputs
names_of_more [] step = append-nil (names_of step.outputs)
names_of_more (x ∷ steps) step =
    cc (names_of_more steps step, append_assoc (names_of x.outputs) (out_names steps) (names_of step.outputs))

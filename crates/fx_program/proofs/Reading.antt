-- The program of a text, by what its parts come to.
use Rattle.std.proofs.Common.{ℕ, ◌≡◌, ◌≤◌, List, length, Result, Ok, Err, map, ap, ◌∙◌}
use Rattle.std.proofs.lemmas.Bool.{le-ltb}
use Rattle.fx_lexer.specs.declared.token.Token.{Token}
use Rattle.fx_lexer.specs.declared.token.LexFault.{LexFault}
use Rattle.fx_lexer.specs.Lexing.{lexed}
use Rattle.fx_text.specs.declared.refusal.Refusal.{Refusal}
use Rattle.fx_statements.specs.declared.step.Step.{Step}
use Rattle.fx_statements.specs.Steps.{Meaning, meaning_of}
use Rattle.fx_statements.specs.Programs.{program_of}
use Rattle.fx_program.specs.declared.text.TextFault.TheVariants.{Lexical, Refused}
use Rattle.fx_program.specs.Texts.{or_refused, program_by, program_in}

module _ (text : List ℕ) (short : length text ≤ 1048576) where
  by_tokens : (r : Result (List Token) LexFault) → lexed text ≡ r → program_in text ≡ program_by text r
  unfolding program_in
  by_tokens r e = rw (le-ltb 1048576 (length text) short) (ap (program_by text) e)

  pub lexical : (fault : LexFault) → lexed text ≡ Err fault → program_in text ≡ Err (Lexical fault)
  lexical fault e = by_tokens (Err fault) e

  module _ (tokens : List Token) (lexes : lexed text ≡ Ok tokens) where
    by_meaning : (r : Result (List Meaning) Refusal) → program_of text tokens ≡ r → program_in text ≡ or_refused r
    by_meaning r e = by_tokens (Ok tokens) lexes ∙ ap or_refused e

    pub refused : (refusal : Refusal) → program_of text tokens ≡ Err refusal → program_in text ≡ Err (Refused refusal)
    refused refusal e = by_meaning (Err refusal) e

    pub read : (steps : List Step) → program_of text tokens ≡ Ok (map meaning_of steps)
        → program_in text ≡ Ok (map meaning_of steps)
    read steps e = by_meaning (Ok (map meaning_of steps)) e

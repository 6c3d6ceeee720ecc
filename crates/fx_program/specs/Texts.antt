-- The program of a text, or why it has none.
use Rattle.std.specs.Prelude.{◌≡◌, ℕ, nat_lt, List, length, Result, Ok, Err, if◌then◌else◌}
use Rattle.fx_lexer.specs.declared.token.Token.{Token}
use Rattle.fx_lexer.specs.declared.token.LexFault.{LexFault}
use Rattle.fx_lexer.specs.Lexing.{lexed}
use Rattle.fx_text.specs.declared.refusal.Refusal.{Refusal}
use Rattle.fx_statements.specs.Steps.{Meaning}
use Rattle.fx_statements.specs.Programs.{program_of}
use Rattle.fx_program.specs.declared.text.TextFault.{TextFault}
use Rattle.fx_program.specs.declared.text.TextStop.{TextStop}
use Rattle.fx_program.specs.declared.text.TextStop.TheVariants as stop
use Rattle.fx_program.specs.declared.text.TextFault.TheVariants.{Lexical, Refused}

-- a refusal at the front of the text
abbrev pub at_front : ℕ → TextFault
at_front code = Refused (record { code = code; line = 1; column = 1 })

-- the steps of an accepted text, or the refusal as a fault
abbrev pub or_refused : Result (List Meaning) Refusal → Result (List Meaning) TextFault
or_refused (Ok steps) = Ok steps
or_refused (Err refusal) = Err (Refused refusal)

-- the program of a text with these tokens
abbrev pub program_by : List ℕ → Result (List Token) LexFault → Result (List Meaning) TextFault
program_by text (Ok tokens) = or_refused (program_of text tokens)
program_by text (Err fault) = Err (Lexical fault)

-- the program of a text of at most 1,048,576 bytes
unfoldable pub program_in : List ℕ → Result (List Meaning) TextFault
program_in text = if nat_lt 1048576 (length text) then Err (at_front 25) else program_by text (lexed text)

-- the text has no program for this reason; want of memory says nothing of the text
abbrev pub IsFault : Result (List Meaning) TextFault → TextStop → Type 0
IsFault program (stop.Fault fault) = program ≡ Err fault
IsFault program stop.NoMemory = Unit {0}

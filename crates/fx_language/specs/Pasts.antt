-- What a pass over symbols keeps of those that it has seen, so that it need not look back.
use Rattle.std.specs.Prelude.{ℕ, ◌+◌, nat_le, not, ◌&&◌, ◌||◌, Bool, List, [], ◌∷◌, Option, Some, None, if◌then◌else◌}
use Rattle.fx_language.specs.declared.code.TheConstants.{REPEATED_OPTION, REPEATED_STATEMENT, STATEMENT_AFTER_RUN}
use Rattle.fx_language.specs.declared.code.TheConstants.{TOO_MANY_STEPS}
use Rattle.fx_language.specs.declared.repeated.TheConstants.{MOST_STEPS}
use Rattle.fx_language.specs.declared.symbol.Symbol.{Symbol}
use Rattle.fx_language.specs.declared.symbol.Symbol.TheVariants.{Proc, Nodes, Run, Quit, Output, Semicolon, Equals}
use Rattle.fx_language.specs.declared.symbol.Symbol.TheVariants.{OpenBracket, CloseBracket}
use Rattle.fx_language.specs.declared.symbol_set.SymbolSet.{SymbolSet}
use Rattle.fx_language.specs.declared.repeated.Past.{Past}
use Rattle.fx_language.specs.Symbols.{is, is_once, is_output_option}
use Rattle.fx_language.specs.SymbolSets.{empty, has, including}
use Rattle.fx_language.specs.Repeats.{is_start, is_behind_equals, is_in_brackets, awaits_name, procs}

-- the first words of the step's statements, after one more symbol
abbrev pub step_after : Bool → Symbol → SymbolSet → SymbolSet
step_after start s words =
    if start then (if is Proc s || is Quit s then empty else including s words) else words

-- the first word of the statement, after one more symbol
abbrev pub begun_after : Bool → Symbol → Symbol → Symbol
begun_after start s begun = if start || is Semicolon s then s else begun

-- the words of the statement that are not names, after one more symbol, which is a name where `named` is set
abbrev pub options_after : Bool → Symbol → SymbolSet → SymbolSet
options_after named s options =
    if is Semicolon s then empty else (if named then options else including s options)

-- whether brackets are inside, after one more symbol
abbrev pub brackets_after : Symbol → Bool → Bool
brackets_after s inside = is OpenBracket s || (not (is CloseBracket s || is Semicolon s) && inside)

-- the same where these symbols were seen, the last one first
abbrev pub step_set : List Symbol → SymbolSet
step_set [] = empty
step_set (s ∷ seen) = step_after (is_start seen) s (step_set seen)

abbrev pub begun : List Symbol → Symbol
begun [] = Semicolon
begun (s ∷ seen) = begun_after (is_start seen) s (begun seen)

abbrev pub option_set : List Symbol → SymbolSet
option_set [] = empty
option_set (s ∷ seen) = options_after (awaits_name seen) s (option_set seen)

-- all that is kept
abbrev pub past_of : List Symbol → Past
past_of seen = record {
  start = is_start seen;
  behind_equals = is_behind_equals seen;
  in_brackets = is_in_brackets seen;
  procs = procs seen;
  step = step_set seen;
  begun = begun seen;
  options = option_set seen;
}

-- the symbol is an option of a statement with this first word
abbrev pub is_option_of : Symbol → Symbol → Bool
is_option_of begun s = if is Nodes s then is Proc begun else is_output_option s && is Output begun

-- the code by which a rule refuses the symbol
abbrev pub rule_code : Past → Symbol → Bool → Option ℕ
rule_code p s factex_follows =
    if p.start && is_once s && has p.step Run then Some STATEMENT_AFTER_RUN
    else (if p.start && is_once s && has p.step s then Some REPEATED_STATEMENT
    else (if p.start && is Proc s && factex_follows && nat_le MOST_STEPS p.procs then Some TOO_MANY_STEPS
    else (if not (p.behind_equals || p.in_brackets) && is_option_of p.begun s && has p.options s
    then Some REPEATED_OPTION
    else None)))

-- what is kept after one more symbol
abbrev pub past_after : Past → Symbol → Past
past_after p s = record {
  start = is Semicolon s;
  behind_equals = is Equals s;
  in_brackets = brackets_after s p.in_brackets;
  procs = if p.start && is Proc s then p.procs + 1 else p.procs;
  step = step_after p.start s p.step;
  begun = begun_after p.start s p.begun;
  options = options_after (p.behind_equals || p.in_brackets) s p.options;
}

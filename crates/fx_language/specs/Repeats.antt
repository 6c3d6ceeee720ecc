-- The rules on words that are repeated or too late. They refuse symbols that the grammar allows.
use Rattle.std.specs.Prelude.{ℕ, ◌+◌, nat_le, not, ◌&&◌, ◌||◌, Bool, true, false, List, [], ◌∷◌, count_by, Option, Some}
use Rattle.std.specs.Prelude.{None, if◌then◌else◌}
use Rattle.std.specs.List.{list_any}
use Rattle.fx_language.specs.declared.code.TheConstants.{REPEATED_OPTION, REPEATED_STATEMENT, STATEMENT_AFTER_RUN}
use Rattle.fx_language.specs.declared.code.TheConstants.{TOO_MANY_STEPS}
use Rattle.fx_language.specs.declared.repeated.TheConstants.{MOST_STEPS}
use Rattle.fx_language.specs.declared.symbol.Symbol.{Symbol}
use Rattle.fx_language.specs.declared.symbol.Symbol.TheVariants.{Proc, Factex, Nodes, Run, Quit, Output, Semicolon}
use Rattle.fx_language.specs.declared.symbol.Symbol.TheVariants.{Equals, OpenBracket, CloseBracket}
use Rattle.fx_language.specs.Symbols.{is, is_once, is_output_option}

-- What was seen is listed with its last symbol first. A statement starts at the front of the text and after each `;`.
abbrev pub is_start : List Symbol → Bool
is_start [] = true
is_start (s ∷ seen) = is Semicolon s

-- the first words of the statements that were seen, the last one first
abbrev pub first_words : List Symbol → List Symbol
first_words [] = []
first_words (s ∷ seen) = if is_start seen then s ∷ first_words seen else first_words seen

-- those of the step: the words after the last PROC or QUIT
abbrev pub step_words : List Symbol → List Symbol
step_words [] = []
step_words (word ∷ words) = if is Proc word || is Quit word then [] else word ∷ step_words words

-- the step has a statement that begins with this word
abbrev pub has_statement : Symbol → List Symbol → Bool
has_statement word seen = list_any (is word) (step_words (first_words seen))

-- how many statements begin with PROC
abbrev pub procs : List Symbol → ℕ
procs seen = count_by (is Proc) (first_words seen)

-- the statement that was begun begins with this word
abbrev pub is_in : Symbol → List Symbol → Bool
is_in word [] = false
is_in word (s ∷ seen) = not (is Semicolon s) && (if is_start seen then is word s else is_in word seen)

-- `=` was seen last
abbrev pub is_behind_equals : List Symbol → Bool
is_behind_equals [] = false
is_behind_equals (s ∷ seen) = is Equals s

-- brackets are open
abbrev pub is_in_brackets : List Symbol → Bool
is_in_brackets [] = false
is_in_brackets (s ∷ seen) =
    is OpenBracket s || (not (is CloseBracket s || is Semicolon s) && is_in_brackets seen)

-- any word is a name here: after `=`, and in brackets
abbrev pub awaits_name : List Symbol → Bool
awaits_name seen = is_behind_equals seen || is_in_brackets seen

-- the statement that was begun has this option
abbrev pub has_option : Symbol → List Symbol → Bool
has_option option [] = false
has_option option (s ∷ seen) =
    not (is Semicolon s) && ((is option s && not (awaits_name seen)) || has_option option seen)

-- the symbol is NODES in a PROC statement, or an option in an OUTPUT statement
abbrev pub is_option_in : List Symbol → Symbol → Bool
is_option_in seen s = if is Nodes s then is_in Proc seen else is_output_option s && is_in Output seen

-- the rest begins with this symbol
abbrev pub begins_with : Symbol → List Symbol → Bool
begins_with want [] = false
begins_with want (s ∷ rest) = is want s

-- The code by which a rule refuses the symbol s after what was seen, and before the rest. 27: a statement after
-- a RUN of its step. 26: a statement that its step has already. 32: PROC FACTEX after 100 steps. 28: an option that
-- its statement has already.
abbrev pub rule_at : List Symbol → Symbol → List Symbol → Option ℕ
rule_at seen s rest =
    if is_start seen && is_once s && has_statement Run seen then Some STATEMENT_AFTER_RUN
    else (if is_start seen && is_once s && has_statement s seen then Some REPEATED_STATEMENT
    else (if is_start seen && is Proc s && begins_with Factex rest && nat_le MOST_STEPS (procs seen)
    then Some TOO_MANY_STEPS
    else (if not (awaits_name seen) && is_option_in seen s && has_option s seen then Some REPEATED_OPTION
    else None)))

-- the code of a symbol at i, or the refusal of a later one
abbrev pub or_later : ℕ → Option ℕ → Option (ℕ × ℕ) → Option (ℕ × ℕ)
or_later i None later = later
or_later i (Some code) later = Some (code, i)

-- the first symbol that a rule refuses: its code, and its index, where the first one has index i
abbrev pub repeated : List Symbol → ℕ → List Symbol → Option (ℕ × ℕ)
repeated seen i [] = None
repeated seen i (s ∷ rest) = or_later i (rule_at seen s rest) (repeated (s ∷ seen) (i + 1) rest)

-- The options of an OUTPUT statement, each with all that belongs to it.
use Rattle.std.specs.Prelude.{ℕ, suc, Bool, false, not, ◌&&◌, ◌||◌, List, [], ◌∷◌, ◌++◌, take, if◌then◌else◌}
use Rattle.fx_language.specs.declared.symbol.Symbol.{Symbol}
use Rattle.fx_language.specs.declared.symbol.Symbol.TheVariants.{Equals, OpenBracket, CloseBracket}
use Rattle.fx_language.specs.Symbols.{is, is_word, is_output_option}
use Rattle.fx_text.specs.Written.{Written, begins}

-- brackets are open behind this, where `inside` says whether they are open in front of it
abbrev pub are_open_behind : Bool → Written → Bool
are_open_behind inside w = is OpenBracket w.symbol || (inside && not (is CloseBracket w.symbol))

-- `[`, the word of an option, or another word without `=` after it, the name of a factor
abbrev pub is_first : Written → List Written → Bool
is_first w rest =
    is OpenBracket w.symbol || is_output_option w.symbol || (is_word w.symbol && not (begins Equals rest))

-- an option begins here, behind `before` and outside of brackets: any word behind `=` is a name
abbrev pub begins_option : Bool → Written → List Written → Bool
begins_option within before [] = false
begins_option within before (w ∷ rest) = not (within || is Equals before.symbol) && is_first w rest

-- how much precedes the next option
abbrev pub option_len : Bool → List Written → ℕ
option_len inside [] = 0
option_len inside (w ∷ rest) =
    let within = are_open_behind inside w in
    suc (if begins_option within w rest then 0 else option_len within rest)

-- the options after these, in order; each symbol has one in front of it
abbrev pub options_behind : List (List Written) → Bool → List Written → List (List Written)
options_behind done inside [] = done
options_behind done inside (before ∷ rest) =
    let within = are_open_behind inside before in
    options_behind (if begins_option within before rest then done ++ take (option_len within rest) rest ∷ [] else done)
    within rest

-- the options of what follows `OUT =`, the OUT name first
abbrev pub options_of : List Written → List (List Written)
options_of s = options_behind [] false s

-- the option that begins with this word, nothing where there is none
abbrev pub option_of : Symbol → List (List Written) → List Written
option_of word [] = []
option_of word (option ∷ options) = if begins word option then option else option_of word options

-- The values that NVALS or CVALS gives in the place of a factor's levels, or of the numbers of blocks.
use Rattle.std.specs.Prelude.{ℕ, ◌==◌, Bool, true, false, List, [], ◌∷◌, length, drop, Option, Some, None}
use Rattle.std.specs.Prelude.{Result, Ok}
use Rattle.std.specs.Prelude.{Err, if◌then◌else◌}
use Rattle.fx_language.specs.declared.code.TheConstants.{WRONG_NUMBER_OF_VALUES}
use Rattle.fx_language.specs.declared.symbol.Symbol.TheVariants.{Quoted, Close, Minus}
use Rattle.fx_language.specs.Symbols.{is}
use Rattle.fx_text.specs.declared.refusal.Refusal.{Refusal}
use Rattle.fx_text.specs.Written.{Written}
use Rattle.fx_text.specs.Refusals.{refusal_at}

-- What follows a text's first quote, without its last one, and of each two quotes the second. `met` says that
-- a quote is in front that is no second one.
abbrev pub unquoted : ℕ → Bool → List ℕ → List ℕ
unquoted quote met [] = []
unquoted quote met (b ∷ rest) =
    if b == quote
    then (if met then b ∷ unquoted quote false rest else unquoted quote true rest)
    else b ∷ unquoted quote false rest

-- the inside of a quoted text, each doubled quote once
abbrev pub inside : List ℕ → List ℕ
inside [] = []
inside (quote ∷ rest) = unquoted quote false rest

-- a value: a number as it is written, with `-` in front where it has a sign, or the inside of a quoted text
abbrev pub value_of : Bool → Written → List ℕ
value_of signed w = if is Quoted w.symbol then inside w.text else (if signed then 45 ∷ w.text else w.text)

-- the values up to `)`, from left to right, where `signed` says that `-` is in front
abbrev pub values_from : Bool → List Written → List (List ℕ)
values_from signed [] = []
values_from signed (w ∷ rest) =
    if is Close w.symbol then []
    else (if is Minus w.symbol then values_from true rest
    else value_of signed w ∷ values_from false rest)

-- the values of what follows NVALS or CVALS, whose first two are `=` and `(`
abbrev pub values_of : List Written → List (List ℕ)
values_of rest = values_from false (drop 2 rest)

-- as many values as are wanted, or E17 at NVALS or CVALS; also where no number of values would do
abbrev pub checked_values : Option ℕ → Written → List (List ℕ) → Result (List (List ℕ)) Refusal
checked_values None word values = Err (refusal_at WRONG_NUMBER_OF_VALUES word)
checked_values (Some wanted) word values =
    if length values == wanted then Ok values else Err (refusal_at WRONG_NUMBER_OF_VALUES word)

-- The values of a column, which are what follows its name: none, or as many as are wanted.
abbrev pub values_if_any : Option ℕ → List Written → Result (List (List ℕ)) Refusal
values_if_any wanted [] = Ok []
values_if_any wanted (word ∷ rest) = checked_values wanted word (values_of rest)

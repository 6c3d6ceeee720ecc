-- The statements and steps of a text.
use Rattle.std.specs.Prelude.{Bool, not, ◌||◌, List, [], ◌∷◌, take, Option, Some, None, if◌then◌else◌}
use Rattle.std.specs.List.{prefix_len}
use Rattle.fx_language.specs.declared.symbol.Symbol.{Symbol}
use Rattle.fx_language.specs.declared.symbol.Symbol.TheVariants.{Proc, Quit, Semicolon}
use Rattle.fx_language.specs.Symbols.{is}
use Rattle.fx_text.specs.Written.{Written, begins}

-- what is written in front of the first of some statements
abbrev pub in_front : Written → List (List Written) → List (List Written)
in_front w [] = (w ∷ []) ∷ []
in_front w (s ∷ rest) = (w ∷ s) ∷ rest

-- the statements: what precedes each semicolon, and what is left after the last one
abbrev pub statements_of : List Written → List (List Written)
statements_of [] = []
statements_of (w ∷ rest) = if is Semicolon w.symbol then [] ∷ statements_of rest else in_front w (statements_of rest)

-- a step ends before the next PROC and before QUIT
abbrev pub ends_step : List Written → Bool
ends_step s = begins Proc s || begins Quit s

-- the statements that belong to a step, from after its PROC statement on
abbrev pub rest_of_step : List (List Written) → List (List Written)
rest_of_step statements = take (prefix_len (λ s. not (ends_step s)) statements) statements

-- the steps, each with its statements from its PROC statement on
abbrev pub steps_of : List (List Written) → List (List (List Written))
steps_of [] = []
steps_of (s ∷ rest) = if begins Proc s then (s ∷ rest_of_step rest) ∷ steps_of rest else steps_of rest

-- the first statement that begins with this word
abbrev pub statement_of : Symbol → List (List Written) → Option (List Written)
statement_of word [] = None
statement_of word (s ∷ rest) = if begins word s then Some s else statement_of word rest

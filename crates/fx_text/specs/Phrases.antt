-- Parts of what is written.
use Rattle.std.specs.Prelude.{Bool, not, List, [], ◌∷◌, take, if◌then◌else◌}
use Rattle.std.specs.List.{list_any, prefix_len}
use Rattle.fx_language.specs.declared.symbol.Symbol.{Symbol}
use Rattle.fx_language.specs.Symbols.{is}
use Rattle.fx_lexer.specs.declared.place.Place.{Place}
use Rattle.fx_text.specs.Written.{Written}
use Rattle.fx_text.specs.Refusals.{place_at}

-- the place of the first lexeme
abbrev pub start_of : List Written → Place
start_of [] = record { line = 1; column = 1 }
start_of (w ∷ rest) = place_at w

-- this symbol is written there
abbrev pub has_symbol : Symbol → List Written → Bool
has_symbol symbol written = list_any (λ w. is symbol w.symbol) written

-- what precedes the first such symbol
abbrev pub preceding : Symbol → List Written → List Written
preceding symbol written = take (prefix_len (λ w. not (is symbol w.symbol)) written) written

-- what follows it
abbrev pub after : Symbol → List Written → List Written
after symbol [] = []
after symbol (w ∷ rest) = if is symbol w.symbol then rest else after symbol rest

-- A row of a table of spellings, without where its letters lie in memory.
use Rattle.std.specs.Prelude.{ℕ, List}
use Rattle.fx_language.specs.declared.keyword.Spelling.{Spelling}
use Rattle.fx_language.specs.declared.symbol.Symbol.{Symbol}

-- the row of the table for a spelling
abbrev pub spelling_row : Spelling → List ℕ × Symbol
spelling_row s = (s.letters.now, s.symbol)

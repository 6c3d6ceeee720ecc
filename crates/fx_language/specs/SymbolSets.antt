-- Sets of symbols, kept as the bits of a number.
use Rattle.std.specs.Prelude.{Bool, ◌^◌, ◌==◌}
use Rattle.std.specs.Int.{bit_at}
use Rattle.std.specs.Int.RustNames.{bit_or}
use Rattle.fx_language.specs.declared.symbol.Symbol.{Symbol}
use Rattle.fx_language.specs.declared.symbol_set.SymbolSet.{SymbolSet}
use Rattle.fx_language.specs.Symbols.{index}

-- the set of none
abbrev pub empty : SymbolSet
empty = record { bits = 0 }

-- it has this symbol
abbrev pub has : SymbolSet → Symbol → Bool
has set s = bit_at set.bits (index s) == 1

-- the set with one more symbol
abbrev pub including : Symbol → SymbolSet → SymbolSet
including s set = record { bits = bit_or set.bits (2 ^ index s) }

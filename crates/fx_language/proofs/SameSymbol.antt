-- A symbol that passes the test of another is that symbol.
use Rattle.std.proofs.Common.{◌≡◌, true, get_or, refl}
use Rattle.std.proofs.lemmas.Bool.{eqb-true}
use Rattle.fx_language.specs.declared.symbol.Symbol.{Symbol}
use Rattle.fx_language.specs.declared.symbol.Symbol.TheVariants.{Proc, End}
use Rattle.fx_language.specs.Keywords.{all_symbols}
use Rattle.fx_language.specs.Symbols.{index, is}

-- the list of symbols is in the order of their numbers
at_its_number : (s : Symbol) → get_or all_symbols (index s) End ≡ s
at_its_number Proc = refl
at_its_number s = refl

pub symbol_is : (a s : Symbol) → is a s ≡ true → s ≡ a
symbol_is a s h =
    cc (at_its_number s, eqb-true _ _ h, at_its_number a)

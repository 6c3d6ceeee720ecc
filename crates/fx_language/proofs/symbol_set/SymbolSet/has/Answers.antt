use Rattle.std.proofs.lemmas.Nat.Bits.{shr_and_one}
use Rattle.fx_language.specs.Symbols.{index}
use Rattle.fx_language.proofs.symbol_set.SymbolSet.has.Goals as goal

pub returns : goal.returns
returns c = rw c.index.ensures (cc (shr_and_one c.args.self.bits (index c.args.s)))

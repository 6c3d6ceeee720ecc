use Rattle.std.proofs.lemmas.Nat.{one_shl}
use Rattle.fx_language.specs.Symbols.{index}
use Rattle.fx_language.proofs.SymbolSets.{index_fits}
use Rattle.fx_language.proofs.symbol_set.SymbolSet.with.Goals as goal

pub returns : goal.returns
returns c = rw (c.index.ensures, one_shl _ 64 (index_fits c.args.s))

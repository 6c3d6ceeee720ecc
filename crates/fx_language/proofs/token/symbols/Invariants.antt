use Rattle.std.proofs.Common.{◌≡◌, take}
use Rattle.fx_language.specs.Keywords.{symbols_of}
use Rattle.fx_language.proofs.token.symbols.Given as goal

abbrev pub invariant-loop-token : goal.invariant-loop-token
invariant-loop-token l = l.symbols ≡ symbols_of l.text (take l.token-index l.tokens)

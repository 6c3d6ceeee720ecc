use Rattle.std.proofs.Common.{◌≡◌, drop}
use Rattle.fx_text.specs.Phrases.{after}
use Rattle.fx_text.proofs.phrase.Phrase.after.Given as goal

abbrev pub invariant-loop-i : goal.invariant-loop-i
invariant-loop-i l = after l.symbol l.self ≡ after l.symbol (drop l.i l.self)

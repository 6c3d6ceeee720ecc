use Rattle.std.proofs.Common.{◌≡◌, take}
use Rattle.fx_text.specs.Written.{written}
use Rattle.fx_text.proofs.lexeme.lexemes.Given as goal

abbrev pub invariant-loop-i : goal.invariant-loop-i
invariant-loop-i l = l.lexemes ≡ written l.text (take l.i l.tokens)

use Rattle.std.proofs.Common.{◌≡◌, drop}
use Rattle.fx_lexer.specs.Extents.{closing_len}
use Rattle.fx_lexer.proofs.NextByte.{further}
use Rattle.fx_lexer.proofs.extent.closing_len.Given as goal

abbrev pub invariant-loop-i : goal.invariant-loop-i
invariant-loop-i l = closing_len l.bytes ≡ further l.i (closing_len (drop l.i l.bytes))

use Rattle.std.proofs.Common.{◌≡◌, drop}
use Rattle.fx_lexer.specs.Extents.{remark_len}
use Rattle.fx_lexer.proofs.NextByte.{further}
use Rattle.fx_lexer.proofs.extent.remark_len.Given as goal

abbrev pub invariant-loop-i : goal.invariant-loop-i
invariant-loop-i l = remark_len l.bytes ≡ further l.i (remark_len (drop l.i l.bytes))

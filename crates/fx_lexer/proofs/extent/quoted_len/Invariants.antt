use Rattle.std.proofs.Common.{◌≡◌, false, drop}
use Rattle.fx_lexer.specs.Extents.{quoted_len}
use Rattle.fx_lexer.proofs.NextByte.{further}
use Rattle.fx_lexer.proofs.extent.quoted_len.Given as goal

abbrev pub invariant-loop-i : goal.invariant-loop-i
invariant-loop-i l = quoted_len l.quote false l.bytes ≡ further l.i (quoted_len l.quote l.in_pair (drop l.i l.bytes))

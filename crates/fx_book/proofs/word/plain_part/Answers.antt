use Rattle.std.proofs.Common.{arith}
use Rattle.fx_book.proofs.Stops.{longer_entry, short_entry}
use Rattle.fx_book.proofs.word.plain_part.Goals as goal

pub code_at-requires : goal.code_at-requires
code_at-requires c = let h = c.requires in omega arith

pub code_at-requires-2 : goal.code_at-requires-2
code_at-requires-2 c = let h = c.requires in omega (arith, c.in_ok-second.ensures.0)

pub returns-then-byte_at-eq58 : goal.returns-then-byte_at-eq58
returns-then-byte_at-eq58 c = record {
  later = omega arith;
  within = omega (arith, c.in_ok-code.ensures.digit.0);
  first = short_entry c.args.line.now c.args.end c.in_ok-first.first c.in_ok-code.code c.requires c.in_ok-first.ensures
      (cc (c.byte_at.ensures, c.if-byte_at-eq58.true)) c.in_ok-code.ensures.digit c.in_ok-code.ensures.stop;
}

pub returns : goal.returns
returns c = record {
  later = omega arith;
  within = omega (arith, c.in_ok-code-2.ensures.digit.0);
  first = longer_entry c.args.line.now c.args.end c.in_ok-first.first c.in_ok-second.second c.in_ok-code-2.code
      c.requires
      (omega arith) c.in_ok-first.ensures c.in_ok-second.ensures
      (cc (c.byte_at-else-first-eq0.ensures, c.if-byte_at-ne58.false)) c.in_ok-code-2.ensures.digit
      c.in_ok-code-2.ensures.stop;
}

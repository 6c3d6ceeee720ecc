use Rattle.std.proofs.Common.{◌∙◌, sym, arith}
use Rattle.std.proofs.lemmas.List.{take_rest}
use Rattle.fx_lexer.proofs.NextByte.{quoted_later}
use Rattle.fx_lexer.proofs.extent.quoted_len.Goals as goal

pub loop-i-preserved : goal.loop-i-preserved
loop-i-preserved c =
    let no = rw (take_rest c.args.bytes.now c.loop-i.i) at (sym c.ends_quoted.ensures ∙ c.if-ends_quoted.false) in
    rw c.opens_pair-in_pair.ensures
    (c.loop-i.invariant ∙ quoted_later c.args.bytes.now c.loop-i.i (omega arith) c.args.quote c.loop-i.in_pair no)

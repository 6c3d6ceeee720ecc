use Rattle.std.proofs.Common.{◌∙◌, sym, arith}
use Rattle.std.proofs.lemmas.List.{take_rest}
use Rattle.fx_lexer.proofs.NextByte.{closed_later}
use Rattle.fx_lexer.proofs.extent.closing_len.Goals as goal

pub loop-i-preserved : goal.loop-i-preserved
loop-i-preserved c =
    let no = rw (take_rest c.args.bytes.now c.loop-i.i) at (sym c.ends_comment.ensures ∙ c.if-ends_comment.false) in
    c.loop-i.invariant ∙ closed_later c.args.bytes.now c.loop-i.i (omega arith) no

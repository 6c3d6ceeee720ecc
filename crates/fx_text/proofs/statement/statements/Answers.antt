use Rattle.std.proofs.Common.{◌+◌, ◌<◌, length, drop, arith}
use Rattle.std.proofs.lemmas.List.{take_rest, length-drop, drop-drop}
use Rattle.fx_text.proofs.Cuts.{cut_behind}
use Rattle.fx_text.proofs.statement.statements.Goals as goal

pub loop-at-preserved : goal.loop-at-preserved
loop-at-preserved c =
    let all = c.args.lexemes.now in
    let some : 0 < length (drop c.loop-at.at all) = rw length-drop (omega (arith, c.loop-at-test.true)) in
    let len = c.statement_len-len.ensures in
    let rest = take_rest all c.loop-at.at in
    rw (
      ← drop-drop (c.statement_len-len.result + 1) c.loop-at.at all,
      c.in_ok-push.ensures.ok,
      c.new.ensures,
      len,
      rest,
    ) (cut_behind c.loop-at.statements all (drop c.loop-at.at all) some c.loop-at.invariant)

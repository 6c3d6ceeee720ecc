use Rattle.std.proofs.Common.{◌∙◌, arith, length-drop}
use Rattle.std.proofs.lemmas.List.{take_rest}
use Rattle.fx_base.proofs.Steps.{appends_more, appends_part}
use Rattle.fx_base.proofs.writing.write_all.Goals as goal

pub loop-from-preserved : goal.loop-from-preserved
loop-from-preserved g c =
    let rest = take_rest c.args.piece.now c.loop-from.from in
    let within = rw rest at c.in_ok-from.ensures.within in
    let taken = rw rest at c.in_ok-from.ensures.taken in
    let long = length-drop c.loop-from.from c.args.piece.now in
    record {
      in_range = omega arith;
      done = appends_more _ _ _ _ _ _ c.loop-from.invariant.done taken;
      same = c.in_ok-from.ensures.cause.unchanged ∙ c.loop-from.invariant.same;
      unchanged = c.in_ok-from.ensures.unchanged ∙ c.loop-from.invariant.unchanged;
    }

pub returns-in_err-from-clause-part : goal.returns-in_err-from-clause-part
returns-in_err-from-clause-part g c = appends_part _ _ _ _ _ c.loop-from.invariant.done c.in_err-from.ensures.failed

pub returns-clause-part : goal.returns-clause-part
returns-clause-part g c = record { part = _; appended = c.loop-from.invariant.done }

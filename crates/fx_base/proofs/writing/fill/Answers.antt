use Rattle.std.proofs.Common.{◌∙◌, arith, length-drop}
use Rattle.std.proofs.lemmas.List.{take_rest}
use Rattle.fx_base.proofs.Doing.{fill_more, fill_part, fill_whole, shelves_part_whole}
use Rattle.fx_base.proofs.writing.fill.Goals as goal

pub loop-from-preserved : goal.loop-from-preserved
loop-from-preserved g c =
    let rest = take_rest c.args.content.now c.loop-from.from in
    let within = rw rest at c.in_ok-from.ensures.within in
    let taken = rw rest at c.in_ok-from.ensures.taken in
    let long = length-drop c.loop-from.from c.args.content.now in
    record {
      in_range = omega arith;
      done = fill_more _ _ _ _ _ _ c.loop-from.invariant.done taken;
      state = c.in_ok-from.ensures.state;
      same = c.in_ok-from.ensures.cause.unchanged ∙ c.loop-from.invariant.same;
      unchanged = c.in_ok-from.ensures.unchanged ∙ c.loop-from.invariant.unchanged;
    }

pub returns-in_err-from-clause-part : goal.returns-in_err-from-clause-part
returns-in_err-from-clause-part g c = fill_part _ _ _ _ _ c.loop-from.invariant.done c.in_err-from.ensures.failed

pub returns-clause-done : goal.returns-clause-done
returns-clause-done g c = fill_whole _ _ _ _ (omega arith) c.loop-from.invariant.done

pub returns-clause-part : goal.returns-clause-part
returns-clause-part g c = shelves_part_whole _ _ _ (fill_whole _ _ _ _ (omega arith) c.loop-from.invariant.done)

use Rattle.std.proofs.Common.{◌∙◌, List, ℕ, arith, length-drop, subst}
use Rattle.std.proofs.lemmas.List.{take_all, take_rest}
use Rattle.fx_base.proofs.Doing.{fill_more}
use Rattle.fx_program.specs.Outside.{shelf_view}
use Rattle.fx_program.proofs.Filling.{FilledSoFar, filled_all, filled_failed, filled_none}
use Rattle.fx_program.proofs.streaming.fill.Goals as goal

pub loop-from-init : goal.loop-from-init
loop-from-init g c = record { within = omega arith; filled = filled_none _ c.requires }

pub loop-from-preserved : goal.loop-from-preserved
loop-from-preserved g c =
    let rest = take_rest c.args.content.now c.loop-from.from in
    let within = rw rest at c.in_ok-from.ensures.within in
    let taken = rw rest at c.in_ok-from.ensures.taken in
    let long = length-drop c.loop-from.from c.args.content.now in
    let so_far = c.loop-from.invariant.filled in
    record {
      within = omega arith;
      filled = record {
        files = fill_more _ _ _ _ _ _ so_far.files taken;
        begun = c.in_ok-from.ensures.state;
        count = c.in_ok-from.ensures.cause.unchanged ∙ so_far.count;
        room = c.in_ok-from.ensures.unchanged ∙ so_far.room;
      };
    }

pub returns-in_err-from : goal.returns-in_err-from
returns-in_err-from g c =
    filled_failed c.args.content.now c.loop-from.from c.loop-from.invariant.filled c.in_err-from.ensures.failed
    c.in_err-from.ensures.cause.failed c.in_err-from.ensures.unchanged c.from_residual.result c.from_residual.ensures.1

pub returns : goal.returns
returns g c =
    let content : List ℕ = c.args.content.now in
    filled_all tt
    (subst (λ (l : List ℕ). FilledSoFar l (shelf_view g.F.Shelf c.args.shelf.now) (shelf_view g.F.Shelf c.loop-from.shelf))
    (take_all c.loop-from.from content (omega arith)) c.loop-from.invariant.filled)

use Rattle.std.proofs.Common.{◌+◌, ◌∙◌, drop, ap}
use Rattle.fx_base.proofs.Lists.{drop_read}
use Rattle.fx_text.specs.declared.refusal.ParseStop.TheVariants as stop
use Rattle.fx_text.proofs.Stops.{refused}
use Rattle.fx_outputs.specs.Columns.{places_behind}
use Rattle.fx_outputs.proofs.InOrder.{place_read, place_refused}
use Rattle.fx_outputs.proofs.derived.places.Goals as goal

pub returns-in_err-unused_place-clause-refused : goal.returns-in_err-unused_place-clause-refused
returns-in_err-unused_place-clause-refused c =
    let at = rw c.lexemes-name-items.ensures at c.name-item.is in
    refused _ _ _ c.from_residual-in_err-unused_place.ensures.1
    (c.loop-name.invariant ∙ ap (places_behind c.args.context.now c.args.done.now c.loop-name.places)
    (drop_read c.args.names.now c.loop-name.name-index c.name-item.result
    (rw c.lexemes-name-items.ensures at c.loop-name-test.true) at)
    ∙ place_refused c.args.context.now c.args.done.now c.loop-name.places c.name-item.result
    (drop (c.loop-name.name-index + 1) c.args.names.now) c.in_ok-factor.factor c.is_taken-used.result
    c.in_ok-factor.ensures (rw c.as_slice.ensures at c.is_taken-used.ensures) _ c.in_err-unused_place.ensures)

pub loop-name-preserved : goal.loop-name-preserved
loop-name-preserved c =
    let at = rw c.lexemes-name-items.ensures at c.name-item.is in
    rw c.in_ok-push.ensures.ok
    (c.loop-name.invariant ∙ ap (places_behind c.args.context.now c.args.done.now c.loop-name.places)
    (drop_read c.args.names.now c.loop-name.name-index c.name-item.result
    (rw c.lexemes-name-items.ensures at c.loop-name-test.true) at)
    ∙ place_read c.args.context.now c.args.done.now c.loop-name.places c.name-item.result
    (drop (c.loop-name.name-index + 1) c.args.names.now) c.in_ok-factor.factor c.is_taken-used.result
    c.in_ok-factor.ensures (rw c.as_slice.ensures at c.is_taken-used.ensures) _ c.in_ok-unused_place.ensures)

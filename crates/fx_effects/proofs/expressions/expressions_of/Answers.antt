use Rattle.std.proofs.Common.{◌≡◌, ◌+◌, ◌∙◌, ℕ, List, Bool, true, ◌∷◌, take, drop, false, ap, refl, arith}
use Rattle.std.proofs.lemmas.List.{take_rest, drop_all}
use Rattle.fx_base.proofs.Lists.{drop_read, each-append}
use Rattle.fx_text.specs.declared.refusal.ParseStop.{ParseStop}
use Rattle.fx_text.specs.Written.{Written}
use Rattle.fx_text.specs.Refusals.{IsRefused}
use Rattle.fx_effects.specs.Expressions.{Expression, begins_effect, effect_len, expression_at, expressions_from}
use Rattle.fx_effects.proofs.Joined.{read, passed}
use Rattle.fx_text.proofs.Stops.{refused, stopped}
use Rattle.fx_effects.proofs.expressions.expressions_of.Goals as goal
use Rattle.fx_effects.proofs.expressions.expressions_of.Goals.{then-begins_effect+in_ok-expression+in_ok-push}
use Rattle.fx_effects.proofs.expressions.expressions_of.Goals.{else-begins_effect}

-- an effect that is refused
at_effect : (factors : List (List ℕ)) (all : List Expression) (joined : Bool) (w : Written) (rest : List Written)
    → begins_effect joined w ≡ true → (reason : ParseStop)
    → IsRefused (expression_at factors w (take (effect_len false rest) rest)) reason
    → IsRefused (expressions_from factors all joined (w ∷ rest)) reason
at_effect factors all joined w rest some reason h =
    rw some (stopped _ _ reason h)

pub loop-i-preserved : goal.loop-i-preserved
loop-i-preserved c =
    let written = c.args.written.now in
    let factors = c.args.factors.now in
    let w = c.index-written-i.result in
    let rest = drop (c.loop-i.i + 1) written in
    let joined = c.loop-i.joined in
    let so_far =
    c.loop-i.invariant.1 ∙ ap (expressions_from factors c.loop-i.all joined)
    (drop_read written c.loop-i.i w (omega arith) c.index-written-i.is) in
    elim c.if-begins_effect.branch [
      | then-begins_effect+in_ok-expression+in_ok-push b ↦
          rw (b.all-is, b.in_ok-push.ensures.ok, c.is_joining-joined.ensures) (
            each-append _ c.loop-i.all _
                c.loop-i.invariant.0 (b.in_ok-expression.ensures.numbers, tt),
            cc (read factors c.loop-i.all joined w rest (cc)
                b.in_ok-expression.expression
                (rw (b.effect_rest-rest.ensures, take_rest written (c.loop-i.i + 1)) at
                b.in_ok-expression.ensures.ok)),
          )
      | else-begins_effect b ↦
          rw (b.all-is, c.is_joining-joined.ensures)
          (c.loop-i.invariant.0, cc (passed factors c.loop-i.all joined w rest (cc)))
    ]

pub loop-i-init : goal.loop-i-init
loop-i-init c = rw c.new-all.ensures (tt, refl)

pub returns-in_err-expression-clause-refused : goal.returns-in_err-expression-clause-refused
returns-in_err-expression-clause-refused c =
    let written = c.args.written.now in
    let so_far =
    c.loop-i.invariant.1 ∙ ap (expressions_from c.args.factors.now c.loop-i.all c.loop-i.joined)
    (drop_read written c.loop-i.i c.index-written-i.result c.loop-i-test.true c.index-written-i.is) in
    refused _ _ c.in_err-expression.field-0.0 c.from_residual.ensures.1
    (rw so_far
    (at_effect c.args.factors.now c.loop-i.all c.loop-i.joined c.index-written-i.result (drop (c.loop-i.i + 1) written)
    (cc (c.begins_effect.ensures, c.if-begins_effect.true)) c.in_err-expression.field-0.0
    (rw (c.effect_rest-rest.ensures, take_rest written (c.loop-i.i + 1)) at c.in_err-expression.ensures.refused)))

pub returns-clause-ok : goal.returns-clause-ok
returns-clause-ok c =
    c.loop-i.invariant.1
    ∙ ap (expressions_from c.args.factors.now c.loop-i.all c.loop-i.joined)
    (drop_all c.loop-i.i c.args.written.now c.loop-i-test.false)

pub returns-clause-numbers : goal.returns-clause-numbers
returns-clause-numbers c = c.loop-i.invariant.0

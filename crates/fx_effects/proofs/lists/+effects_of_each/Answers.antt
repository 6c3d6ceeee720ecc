use Rattle.std.proofs.Common.{length, arith, ap}
use Rattle.std.proofs.lemmas.List.{length-map}
use Rattle.std.proofs.lemmas.Result.{err_from_is_err_and}
use Rattle.fx_effects.proofs.Joined.{small_front, small_back, joined_is, front_few, back_few, cause_more}
use Rattle.fx_effects.proofs.lists.+effects_of_each.Goals as goal

pub effects_of_each-requires : goal.effects_of_each-requires
effects_of_each-requires t c = (
  omega arith,
  small_front c.args.expressions.now
      c.split_at.result.0.now c.split_at.result.1.now _ c.split_at.ensures.front
      c.split_at.ensures.back c.requires,
)

pub effects_of_each-requires-2 : goal.effects_of_each-requires-2
effects_of_each-requires-2 t c = (
  omega arith,
  small_back c.args.expressions.now c.split_at.result.0.now
      c.split_at.result.1.now _ c.split_at.ensures.front c.split_at.ensures.back
      c.requires,
)

pub returns-in_err-front-clause-many : goal.returns-in_err-front-clause-many
returns-in_err-front-clause-many t c =
    let p = err_from_is_err_and c.from_residual.result c.from_residual.ensures.1 in
    rw (p.1, p.2)
    (cause_more _ _ c.in_err-front.field-0.0
    (front_few c.args.expressions.now c.split_at.result.0.now c.split_at.result.1.now
    _ c.split_at.ensures.front c.split_at.ensures.back c.requires)
    c.in_err-front.ensures.many)

pub returns-in_err-back-clause-many : goal.returns-in_err-back-clause-many
returns-in_err-back-clause-many t c =
    let p = err_from_is_err_and c.from_residual-in_err-back.result c.from_residual-in_err-back.ensures.1 in
    rw (p.1, p.2)
    (cause_more _ _ c.in_err-back.field-0.0
    (back_few c.args.expressions.now c.split_at.result.0.now c.split_at.result.1.now
    _ c.split_at.ensures.front c.split_at.ensures.back c.requires)
    c.in_err-back.ensures.many)

pub returns-then-len-gt-MOST_EFFECTS-clause-many : goal.returns-then-len-gt-MOST_EFFECTS-clause-many
returns-then-len-gt-MOST_EFFECTS-clause-many t c =
    let same = ap length (joined_is c.args.expressions.now c.split_at.result.0.now c.split_at.result.1.now
    _ c.split_at.ensures.front c.split_at.ensures.back c.requires
    _ _ _
    c.in_ok-front.ensures.effects c.in_ok-back.ensures.effects c.in_ok-all.ensures.effects) in
    omega (arith, length-map c.in_ok-all.all (λ e. e.0))

pub returns-clause-effects : goal.returns-clause-effects
returns-clause-effects t c =
    joined_is c.args.expressions.now c.split_at.result.0.now c.split_at.result.1.now _
    c.split_at.ensures.front c.split_at.ensures.back c.requires _
    _ _ c.in_ok-front.ensures.effects
    c.in_ok-back.ensures.effects c.in_ok-all.ensures.effects

use Rattle.std.proofs.Common.{subst, sym, ap, ◌∙◌, arith}
use Rattle.fx_demands.specs.Bars.{bars_of}
use Rattle.fx_effects.specs.Lists.{AreSmall, effects_of}
use Rattle.fx_effects.proofs.Joined.{only, one_is}
use Rattle.fx_effects.proofs.lists.effects_of_one.Goals as goal

pub returns-clause-many : goal.returns-clause-many
returns-clause-many c =
    let e = c.index-expressions-0.result in
    let all =
    only c.args.expressions.now e c.requires.one (omega arith) c.index-expressions-0.is in
    rw (ap (λ x. bars_of x.stars x.upto) c.expression.view_is ∙ one_is e (subst AreSmall all c.requires.small).0 ∙ ap
    effects_of (sym all)) at c.bars.ensures.many

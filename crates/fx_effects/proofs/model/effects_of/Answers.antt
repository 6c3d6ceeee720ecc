use Rattle.fx_effects.proofs.Within.{all_told}
use Rattle.fx_effects.proofs.model.effects_of.Goals as goal

pub returns-in-Some-clause-askable : goal.returns-in-Some-clause-askable
returns-in-Some-clause-askable c =
    all_told c.args.factors.now c.args.field c.in-Some.word.now c.from.result c.effects_after.result
    c.effects_after.ensures.ok c.effects_after.ensures.apart

use Rattle.std.proofs.Common.{◌≡◌, drop}
use Rattle.fx_effects.specs.Expressions.{expressions_of, expressions_from}
use Rattle.fx_effects.specs.Lists.{AreSmall}
use Rattle.fx_effects.proofs.expressions.expressions_of.Given as goal

abbrev pub invariant-loop-i : goal.invariant-loop-i
invariant-loop-i l =
    AreSmall l.all
    × (expressions_of l.factors l.written ≡ expressions_from l.factors l.all l.joined (drop l.i l.written))

use Rattle.std.proofs.Common.{length}
use Rattle.fx_effects.proofs.lists.+effects_of_each.Given as goal

abbrev pub decreases-effects_of_each : goal.decreases-effects_of_each
decreases-effects_of_each l = length l.expressions.now

use Rattle.std.proofs.Common.{◌≡◌, ◌≤◌, ◌+◌, false, length, drop}
use Rattle.fx_effects.specs.Expressions.{effect_len}
use Rattle.fx_effects.proofs.expressions.effect_len.Given as goal

abbrev pub invariant-loop-i : goal.invariant-loop-i
invariant-loop-i l =
    (l.i ≤ length l.behind) × (effect_len false l.behind ≡ l.i + effect_len l.joined (drop l.i l.behind))

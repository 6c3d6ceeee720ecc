use Rattle.std.proofs.Common.{◌≡◌, drop}
use Rattle.fx_effects.specs.Expressions.{all_read}
use Rattle.fx_effects.proofs.stars.Stars.read_all.Given as goal

abbrev pub invariant-loop-i : goal.invariant-loop-i
invariant-loop-i l = all_read l.factors l.fn.self l.written ≡ all_read l.factors l.self (drop l._i l.written)

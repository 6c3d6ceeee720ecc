use Rattle.std.proofs.Common.{◌≡◌, drop}
use Rattle.fx_judge.specs.Bases.{basic_key}
use Rattle.fx_judge.proofs.combinations.key_of.Given as goal

abbrev pub invariant-loop-i : goal.invariant-loop-i
invariant-loop-i l = l.key ≡ basic_key l.fn.field (drop l.i l.basic) (drop l.i l.d)

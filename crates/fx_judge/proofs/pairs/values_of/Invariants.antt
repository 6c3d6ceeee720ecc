use Rattle.std.proofs.Common.{◌≡◌, map, take}
use Rattle.fx_designs.specs.Vectors.{dot}
use Rattle.fx_judge.proofs.pairs.values_of.Given as goal

abbrev pub invariant-loop-i : goal.invariant-loop-i
invariant-loop-i l = l.values ≡ take l.i (map (dot l.plan.q l.u) l.plan.rows)

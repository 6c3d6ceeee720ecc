use Rattle.std.proofs.Common.{map, take, ◌+◌, ◌*◌}
use Rattle.fx_designs.specs.Vectors.{dot}
use Rattle.fx_judge.specs.Tallies.{AreValueCounts}
use Rattle.fx_judge.proofs.tally.pairs_of.Given as goal

abbrev pub invariant-loop-i : goal.invariant-loop-i
invariant-loop-i l =
    AreValueCounts 81 (take l.i (map (λ x. 9 * dot l.plan.q l.u x + dot l.plan.q l.v x) l.plan.rows)) l.pairs

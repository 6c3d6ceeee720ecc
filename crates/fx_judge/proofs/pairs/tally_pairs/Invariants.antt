use Rattle.std.proofs.Common.{map, take, ◌+◌, ◌*◌}
use Rattle.fx_designs.specs.Vectors.{dot}
use Rattle.fx_judge.specs.Tallies.{AreValueCounts}
use Rattle.fx_judge.proofs.pairs.tally_pairs.Given as goal

abbrev pub invariant-loop-i : goal.invariant-loop-i
invariant-loop-i l =
    AreValueCounts 81
    (take l.i (map (λ x. 9 * dot l.plan.q l.u.component x + dot l.plan.q l.v.component x) l.plan.rows)) l.pairs

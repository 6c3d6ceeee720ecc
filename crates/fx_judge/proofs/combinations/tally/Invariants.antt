use Rattle.std.proofs.Common.{map, take}
use Rattle.fx_judge.specs.Bases.{basic_key}
use Rattle.fx_judge.specs.Tallies.{AreValueCounts}
use Rattle.fx_judge.proofs.combinations.tally.Given as goal

abbrev pub invariant-loop-k : goal.invariant-loop-k
invariant-loop-k l = AreValueCounts 4096 (take l.k (map (basic_key l.fn.field l.basic) l.differences)) l.counts

use Rattle.std.proofs.Common.{◌≡◌, ◌++◌, drop, map}
use Rattle.std.specs.List.{flat_map}
use Rattle.fx_judge.specs.Listing.{kinship_in, line_in, pairs_in}
use Rattle.fx_judge.specs.Plans.{plan_components}
use Rattle.fx_judge.proofs.pairs.judge_pairs.Given as goal

abbrev pub invariant-loop-i : goal.invariant-loop-i
invariant-loop-i l = record {
  kinds :
      l.pairs.kinds ++ map (kinship_in l.plan) (pairs_in (drop l.i (plan_components l.plan)))
      ≡ map (kinship_in l.plan) (pairs_in (plan_components l.plan));
  lines :
      l.pairs.lines ++ flat_map (line_in l.plan) (pairs_in (drop l.i (plan_components l.plan)))
      ≡ flat_map (line_in l.plan) (pairs_in (plan_components l.plan));
}

use Rattle.std.proofs.Common.{◌≡◌, length}
use Rattle.fx_judge.specs.Rules.{basic_among}
use Rattle.fx_judge.proofs.Bases.{IsStage}
use Rattle.fx_judge.proofs.Stepping.{rules_below}
use Rattle.fx_judge.proofs.regular.eliminate.Given as goal

abbrev pub invariant-loop-i : goal.invariant-loop-i
invariant-loop-i l = record {
  stage : IsStage l.plan.q (length l.plan.names) l.differences l.rows
      (basic_among l.plan.q (length l.plan.names) l.differences l.i) l.i;
  basic : l.basic.items ≡ basic_among l.plan.q (length l.plan.names) l.differences l.i;
  found : l.found ≡ rules_below l.plan.q (length l.plan.names) l.plan.rows l.i;
}

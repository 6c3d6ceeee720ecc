use Rattle.std.proofs.Common.{◌≡◌, take, length}
use Rattle.std.specs.List.{All}
use Rattle.fx_designs.specs.Vectors.{IsVector}
use Rattle.fx_judge.specs.Regular.{row_differences}
use Rattle.fx_judge.proofs.regular.differences.Given as goal

abbrev pub invariant-loop-i : goal.invariant-loop-i
invariant-loop-i l = record {
  so_far : l.found ≡ take l.i (row_differences l.plan.q l.plan.rows);
  each : All (λ d. IsVector l.plan.q (length l.plan.names) d) l.found;
}

use Rattle.std.proofs.Common.{◌≡◌, ◌++◌, take, map}
use Rattle.fx_foldover.specs.Foldovers.{exchanged_run}
use Rattle.fx_foldover.proofs.plan.fold_runs.Given as goal

abbrev pub invariant-loop-i : goal.invariant-loop-i
invariant-loop-i l = record {
  shape : l.runs.shape ≡ l.matrix.shape;
  rows : l.runs.rows ≡ l.initial.runs.rows ++ map (exchanged_run l.fold) (take l.i l.initial.runs.rows);
}

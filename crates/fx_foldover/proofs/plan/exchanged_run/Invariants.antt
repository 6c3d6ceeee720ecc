use Rattle.std.proofs.Common.{◌≡◌, take, length}
use Rattle.fx_foldover.specs.Foldovers.{exchanged_run}
use Rattle.fx_foldover.proofs.plan.exchanged_run.Given as goal

abbrev pub invariant-loop-i : goal.invariant-loop-i
invariant-loop-i l = record {
  len : length l.exchanged ≡ length l.run;
  so_far : take l.i l.exchanged ≡ take l.i (exchanged_run l.fold l.run);
}

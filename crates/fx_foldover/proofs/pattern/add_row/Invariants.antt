use Rattle.std.proofs.Common.{◌≤◌}
use Rattle.fx_foldover.proofs.Additions.{IsAdded}
use Rattle.fx_foldover.proofs.pattern.add_row.Given as goal

abbrev pub invariant-loop-place : goal.invariant-loop-place
invariant-loop-place l = record {
  from : l.points ≤ l.place;
  added : IsAdded l.points l.row l.place l.initial.counts l.counts;
}

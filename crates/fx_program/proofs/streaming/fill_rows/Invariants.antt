use Rattle.std.proofs.Common.{length, ◌-◌, ◌≤◌, take, drop}
use Rattle.fx_plan.specs.Tables.{text_of}
use Rattle.fx_program.specs.Outside.{shelf_view}
use Rattle.fx_program.proofs.Filling.{FilledSoFar}
use Rattle.fx_program.proofs.streaming.fill_rows.Given as goal

abbrev pub invariant-loop-at : goal.invariant-loop-at
invariant-loop-at g l = record {
  after : l.from ≤ l.at;
  within : l.at ≤ length l.plan.rows;
  filled : FilledSoFar (text_of (take (l.at - l.from) (drop l.from l.plan.rows))) (shelf_view g.F.Shelf l.fn.shelf)
      (shelf_view g.F.Shelf l.shelf);
}

abbrev pub decreases-loop-at : goal.decreases-loop-at
decreases-loop-at g l = length l.plan.rows - l.at

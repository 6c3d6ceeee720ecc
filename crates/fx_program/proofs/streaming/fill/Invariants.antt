use Rattle.std.proofs.Common.{length, ◌-◌, ◌≤◌, take}
use Rattle.fx_program.specs.Outside.{shelf_view}
use Rattle.fx_program.proofs.Filling.{FilledSoFar}
use Rattle.fx_program.proofs.streaming.fill.Given as goal

abbrev pub invariant-loop-from : goal.invariant-loop-from
invariant-loop-from g l = record {
  within : l.from ≤ length l.content;
  filled : FilledSoFar (take l.from l.content) (shelf_view g.F.Shelf l.fn.shelf) (shelf_view g.F.Shelf l.shelf);
}

abbrev pub decreases-loop-from : goal.decreases-loop-from
decreases-loop-from g l = length l.content - l.from

use Rattle.std.proofs.Common.{length, ◌-◌, ◌≡◌, ◌≤◌, map, take, true}
use Rattle.fx_base.specs.Acts.{Shelves, FileByte}
use Rattle.fx_base.proofs.writing.fill.Given as goal

abbrev pub invariant-loop-from : goal.invariant-loop-from
invariant-loop-from g l = record {
  in_range : l.from ≤ length l.content;
  done : Shelves (g.F.Shelf.files l.initial.shelf) (g.F.Shelf.files l.shelf) (map FileByte (take l.from l.content));
  state : g.F.Shelf.begun l.shelf ≡ true;
  same : g.F.Shelf.faults l.shelf ≡ g.F.Shelf.faults l.initial.shelf;
  unchanged : g.F.Shelf.room l.shelf ≡ g.F.Shelf.room l.initial.shelf;
}

abbrev pub decreases-loop-from : goal.decreases-loop-from
decreases-loop-from g l = length l.content - l.from

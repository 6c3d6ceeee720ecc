use Rattle.std.proofs.Common.{◌≡◌, map, take, true}
use Rattle.fx_base.specs.Acts.{Shelves, FileByte}
use Rattle.fx_base.specs.Pieces.{joined}
use Rattle.fx_base.proofs.writing.fill_from.Given as goal

abbrev pub invariant-loop-piece : goal.invariant-loop-piece
invariant-loop-piece g l = record {
  done : Shelves (g.F.Shelf.files l.initial.shelf) (g.F.Shelf.files l.shelf)
      (map FileByte (joined (take l.piece-index l.pieces)));
  state : g.F.Shelf.begun l.shelf ≡ true;
  same : g.F.Shelf.faults l.shelf ≡ g.F.Shelf.faults l.initial.shelf;
  unchanged : g.F.Shelf.room l.shelf ≡ g.F.Shelf.room l.initial.shelf;
}

use Rattle.std.proofs.Common.{◌≡◌, ◌<◌, ◌≤◌, false, List}
use Rattle.fx_program.specs.Output.{Output}
use Rattle.fx_program.specs.Outside.{SourceView, outside, shelf_view, sink_view}
use Rattle.fx_program.proofs.Listings.{GivenSoFar, ListedSoFar}
use Rattle.fx_program.proofs.lister.list_lines.Given as goal

abbrev pub invariant-loop-n : goal.invariant-loop-n
invariant-loop-n g l = record {
  low : l.status < 4;
  from : l.fn.numbers.first ≤ l.n;
  closed : g.F.Shelf.begun l.shelf ≡ false;
  done : List Output;
  listed : ListedSoFar (g.L.Lines.is_line l.lines) l.fn.numbers.first l.fn.numbers.last l.n done;
  given : (source : SourceView) → GivenSoFar l.head
      (outside source (sink_view g.K.Sink l.fn.listing) (shelf_view g.F.Shelf l.fn.shelf))
      (outside source (sink_view g.K.Sink l.listing) (shelf_view g.F.Shelf l.shelf))
      l.status done;
}

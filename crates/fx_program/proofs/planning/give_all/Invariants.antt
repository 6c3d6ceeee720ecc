use Rattle.std.proofs.Common.{◌≡◌, ◌+◌, ◌<◌, [], false, drop}
use Rattle.fx_program.specs.Output.{in_order}
use Rattle.fx_program.specs.Outside.{SourceView, outside, shelf_view, sink_view}
use Rattle.fx_program.specs.Planning.{asked_given, given_output}
use Rattle.fx_program.proofs.SoFar.{SoFar}
use Rattle.fx_program.proofs.planning.give_all.Given as goal

abbrev pub invariant-loop-i : goal.invariant-loop-i
invariant-loop-i g l = record {
  low : l.status < 4;
  closed : g.F.Shelf.begun l.shelf ≡ false;
  so_far : (source : SourceView) → SoFar (given_output l.session.seed) asked_given
      (outside source (sink_view g.K.Sink l.fn.listing) (shelf_view g.F.Shelf l.fn.shelf))
      (outside source (sink_view g.K.Sink l.listing) (shelf_view g.F.Shelf l.shelf))
      (in_order (given_output l.session.seed) asked_given 1 [] [] 0 l.steps) (l.i + 1) l.plans l.status (drop l.i l.steps);
}

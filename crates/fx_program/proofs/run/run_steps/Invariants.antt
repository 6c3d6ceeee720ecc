use Rattle.std.proofs.Common.{◌≡◌, ◌+◌, ◌<◌, [], false, map, drop}
use Rattle.fx_statements.specs.Steps.{meaning_of}
use Rattle.fx_program.specs.Output.{asked_of, step_output, steps_output}
use Rattle.fx_program.specs.Outside.{SourceView, outside, shelf_view, sink_view}
use Rattle.fx_program.proofs.SoFar.{SoFar}
use Rattle.fx_program.proofs.run.run_steps.Given as goal

abbrev pub invariant-loop-i : goal.invariant-loop-i
invariant-loop-i g l = record {
  low : l.status < 4;
  closed : g.F.Shelf.begun l.shelf ≡ false;
  so_far : (source : SourceView) → SoFar (step_output l.session.seed) asked_of
      (outside source (sink_view g.K.Sink l.fn.listing) (shelf_view g.F.Shelf l.fn.shelf))
      (outside source (sink_view g.K.Sink l.listing) (shelf_view g.F.Shelf l.shelf))
      (steps_output l.session.seed 1 [] [] 0 (map meaning_of l.steps)) (l.i + 1) l.plans l.status
      (map meaning_of (drop l.i l.steps));
}

use Rattle.std.proofs.Common.{◌≡◌, ◌++◌, map, take}
use Rattle.fx_program.specs.Files.{output_lines, plan_files}
use Rattle.fx_program.specs.Outside.{shelf_view}
use Rattle.fx_program.specs.Plans.{asked_as}
use Rattle.fx_program.proofs.Filing.{ShelvedSoFar}
use Rattle.fx_program.proofs.files.shelve_plans.Given as goal

abbrev pub invariant-loop-output : goal.invariant-loop-output
invariant-loop-output g l = record {
  plans : l.plans ≡ l.fn.plans ++ map (asked_as l.step.factors l.outcome.matrix) (take l.output-index l.step.outputs);
  lines : l.lines
      ≡ l.fn.lines
      ++ output_lines l.session.seed l.fn.plans
      (map (asked_as l.step.factors l.outcome.matrix) (take l.output-index l.step.outputs));
  files : ShelvedSoFar
      (plan_files l.session.seed l.fn.plans
      (map (asked_as l.step.factors l.outcome.matrix) (take l.output-index l.step.outputs)))
      (shelf_view g.F.Shelf l.fn.shelf) (shelf_view g.F.Shelf l.shelf);
}

use Rattle.std.proofs.Common.{◌<◌, ◌≤◌, ◌*◌, ◌^◌, map, take}
use Rattle.fx_statements.specs.Steps.{meaning_of}
use Rattle.fx_program.specs.Summed.{IsSummaryOf}
use Rattle.fx_program.proofs.summary.summary_of.Given as goal

abbrev pub invariant-loop-step : goal.invariant-loop-step
invariant-loop-step g l = record {
  so_far : IsSummaryOf (map meaning_of (take l.step-index l.steps)) l.summary;
  few : l.summary.nodes ≤ l.step-index * 2 ^ 64;
  low : l.summary.status < 4;
}

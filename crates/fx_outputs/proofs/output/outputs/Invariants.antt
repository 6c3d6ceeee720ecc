use Rattle.std.proofs.Common.{◌≡◌, drop}
use Rattle.fx_outputs.specs.Histories.{built}
use Rattle.fx_outputs.specs.Outputs.{outputs_of, outputs_behind, plan_behind}
use Rattle.fx_outputs.proofs.output.outputs.Given as goal

abbrev pub invariant-loop-statement : goal.invariant-loop-statement
invariant-loop-statement l = record {
  meaning : outputs_of l.context l.fn.earlier l.statements
      ≡ outputs_behind l.context l.earlier l.outputs (drop l.statement-index l.statements);
  plans : l.earlier ≡ built (plan_behind l.context) l.fn.earlier l.outputs;
}

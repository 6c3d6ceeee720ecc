use Rattle.std.proofs.Common.{◌≡◌}
use Rattle.fx_plan.specs.Coded.{block_fields}
use Rattle.fx_plan.proofs.runs.block_fields.Given as goal

abbrev pub invariant-loop-z : goal.invariant-loop-z
invariant-loop-z l = l.fields.items ≡ block_fields l.layout.output.now.block_values l.z

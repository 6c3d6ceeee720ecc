use Rattle.std.proofs.Common.{◌+◌, ◌*◌}
use Rattle.fx_outputs.proofs.plan_columns.+columns.Given as goal

-- a plan names those of smaller numbers alone
abbrev pub decreases-push_rep : goal.decreases-push_rep
decreases-push_rep l = 2 * l.before

abbrev pub decreases-push_plan : goal.decreases-push_plan
decreases-push_plan l = 2 * l.number + 1

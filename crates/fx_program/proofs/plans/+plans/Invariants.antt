use Rattle.std.proofs.Common.{◌+◌, ◌*◌}
use Rattle.fx_program.proofs.plans.+plans.Given as goal

-- a plan names those of smaller numbers alone
abbrev pub decreases-plan_at : goal.decreases-plan_at
decreases-plan_at l = 2 * l.number + 1

abbrev pub decreases-named : goal.decreases-named
decreases-named l = 2 * l.before

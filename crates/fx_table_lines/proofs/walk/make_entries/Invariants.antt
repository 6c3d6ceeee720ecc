use Rattle.std.proofs.Common.{◌+◌}
use Rattle.fx_table_check.specs.Goals.{IsGoal}
use Rattle.fx_table_lines.proofs.walk.make_entries.Given as goal

abbrev pub invariant-loop-walk : goal.invariant-loop-walk
invariant-loop-walk l = IsGoal (l.fn.base.w + l.fn.base.n) l.best.goal

use Rattle.std.proofs.Common.{◌<◌, All, take}
use Rattle.fx_table_rules.proofs.rules.are_below.Given as goal

abbrev pub invariant-loop-row : goal.invariant-loop-row
invariant-loop-row l = All (λ r. r < l.runs) (take l.row-index l.rows)

use Rattle.std.proofs.Common.{◌≤◌}
use Rattle.fx_search.proofs.piece_walk.Walk+Unranked.open_rows.Given as goal

abbrev pub invariant-loop-row : goal.invariant-loop-row
invariant-loop-row l = l.count ≤ l.row

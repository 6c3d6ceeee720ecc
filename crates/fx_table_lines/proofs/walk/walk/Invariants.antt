use Rattle.std.proofs.Common.{◌≡◌, ◌<◌, ◌≤◌, ◌+◌, ◌^◌, All, length}
use Rattle.fx_table_book.specs.Tables.{IsSmall}
use Rattle.fx_table_check.specs.Goals.{IsGoal}
use Rattle.fx_table_lines.proofs.walk.walk.Given as goal

abbrev pub invariant-loop-made : goal.invariant-loop-made
invariant-loop-made l = record {
  base : l.prefix.base ≡ l.fn.base;
  room : length l.prefix.rows < l.fn.base.w + l.fn.base.n;
  below : l.below ≤ l.fn.base.q ^ l.fn.base.m;
  goal : IsGoal (l.fn.base.w + l.fn.base.n) l.best.goal;
  entries : All (IsSmall l.fn.base) l.entries;
  count : length l.entries ≡ l.made;
}

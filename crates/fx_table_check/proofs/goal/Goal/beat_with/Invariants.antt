use Rattle.std.proofs.Common.{◌≡◌, length, ℕ}
use Rattle.fx_table_check.proofs.goal.Goal.beat_with.Given as goal

abbrev pub invariant-loop-part : goal.invariant-loop-part
invariant-loop-part l = record {
  same : l.prefix ≡ l.fn.prefix;
  len : length l.beat ≡ l.part-index;
}

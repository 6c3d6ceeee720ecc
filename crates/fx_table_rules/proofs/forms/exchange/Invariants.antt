use Rattle.std.proofs.Common.{◌≡◌, ◌<◌, ◌^◌, All, length}
use Rattle.fx_table_rules.proofs.forms.exchange.Given as goal

abbrev pub invariant-loop-i : goal.invariant-loop-i
invariant-loop-i l = record {
  count : length l.forms ≡ l.shape.m;
  below : All (λ a. a < l.shape.q ^ l.shape.m) l.forms;
}

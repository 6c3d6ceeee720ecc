use Rattle.std.proofs.Common.{◌≡◌, ◌<◌, ◌^◌, All, length}
use Rattle.fx_table_rules.proofs.forms.unit_forms.Given as goal

abbrev pub invariant-loop-i : goal.invariant-loop-i
invariant-loop-i l = record {
  count : length l.forms.items ≡ l.i;
  below : All (λ a. a < l.base.q ^ l.base.m) l.forms.items;
}

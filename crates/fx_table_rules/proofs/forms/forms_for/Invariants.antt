use Rattle.std.proofs.Common.{◌≡◌, ◌<◌, ◌≤◌, ◌^◌, All, length}
use Rattle.fx_table_rules.proofs.forms.forms_for.Given as goal

abbrev pub invariant-loop-row : goal.invariant-loop-row
invariant-loop-row l = record {
  count : length l.forms.items ≡ l.shape.m;
  below : All (λ a. a < l.shape.q ^ l.shape.m) l.forms.items;
  made : l.made ≤ l.shape.m;
}

use Rattle.std.proofs.Common.{◌≡◌, ◌<◌, ◌^◌, ◌+◌, ◌++◌, All, length}
use Rattle.fx_strata.specs.Canonical.{units}
use Rattle.fx_table_rules.proofs.rules.all_rows.Given as goal

abbrev pub invariant-loop-i : goal.invariant-loop-i
invariant-loop-i l = record {
  are : l.all.items ≡ l.rows ++ units l.base.q 0 l.i;
  below : All (λ r. r < l.base.q ^ l.base.m) l.all.items;
  count : length l.all.items ≡ length l.rows + l.i;
}

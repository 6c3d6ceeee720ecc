use Rattle.std.proofs.Common.{◌≡◌, ◌^◌, take}
use Rattle.fx_tree.specs.Introduced.{introduced}
use Rattle.fx_rules.specs.Stepped.{IsStepped}
use Rattle.fx_table_rules.proofs.rules.are_rules.Given as goal

abbrev pub invariant-loop-i : goal.invariant-loop-i
invariant-loop-i l = record {
  stepped : IsStepped l.shape.q 0 (take l.i l.matrix.rows);
  next : l.next ≡ l.shape.q ^ introduced l.shape.q 0 (take l.i l.matrix.rows);
}

use Rattle.std.proofs.Common.{◌≡◌, ◌+◌, ◌≤◌}
use Rattle.fx_designs.specs.Components.{component_count, listed_count}
use Rattle.fx_statements.proofs.components.are_too_many.Given as goal

abbrev pub invariant-loop-k : goal.invariant-loop-k
invariant-loop-k l = record {
  count : l.count ≡ listed_count l.q l.s l.k;
  next : l.next ≡ component_count l.q l.s (l.k + 1);
  few : l.count ≤ 100000;
  small : l.next ≤ 32000000;
}

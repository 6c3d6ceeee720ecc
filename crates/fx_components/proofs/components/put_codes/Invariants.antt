use Rattle.std.proofs.Common.{◌≡◌, ◌≤◌, ◌+◌, ◌++◌, ◌-◌, map, set}
use Rattle.std.specs.List.{range_with_len}
use Rattle.fx_components.proofs.components.put_codes.Given as goal

abbrev pub invariant-loop-c : goal.invariant-loop-c
invariant-loop-c l = record {
  from : 1 ≤ l.c;
  to : l.c ≤ 1 + (l.bound - 1);
  so_far : l.longer ≡ l.fn.longer ++ map (λ c. set l.v l.i c) (range_with_len 1 (l.c - 1));
}

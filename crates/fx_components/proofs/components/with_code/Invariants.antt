use Rattle.std.proofs.Common.{◌≡◌, length, take}
use Rattle.fx_components.proofs.components.with_code.Given as goal

abbrev pub invariant-loop-k : goal.invariant-loop-k
invariant-loop-k l = record {
  len : length l.copy ≡ length l.v;
  so_far : take l.k l.copy ≡ take l.k l.v;
}

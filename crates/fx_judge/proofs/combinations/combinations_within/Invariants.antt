use Rattle.std.proofs.Common.{◌≡◌, ◌≤◌, ◌*◌, ◌^◌, drop}
use Rattle.fx_judge.specs.Bases.{rank}
use Rattle.fx_judge.proofs.combinations.combinations_within.Given as goal

abbrev pub invariant-loop-i : goal.invariant-loop-i
invariant-loop-i l = record {
  all : l.size * l.fn.field ^ rank (drop l.i l.basic) ≡ l.fn.field ^ rank l.basic;
  some : 1 ≤ l.size;
  few : l.size ≤ l.limit;
}

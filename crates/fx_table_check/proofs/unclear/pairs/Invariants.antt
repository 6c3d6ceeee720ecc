use Rattle.std.proofs.Common.{◌≡◌, ◌≤◌, ◌*◌}
use Rattle.fx_strata.specs.Clear.{pairs}
use Rattle.fx_table_check.proofs.unclear.pairs.Given as goal

abbrev pub invariant-loop-k : goal.invariant-loop-k
invariant-loop-k l = record {
  pairs : l.pairs ≡ pairs l.q l.k;
  few : l.pairs ≤ l.k * 4032;
}

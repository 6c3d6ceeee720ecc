use Rattle.std.proofs.Common.{◌≡◌, ◌<◌, ◌^◌}
use Rattle.fx_barred.specs.FirstWords.{sum_to}
use Rattle.fx_barred.proofs.reached.Reached.sum_to.Given as goal

abbrev pub invariant-loop-j : goal.invariant-loop-j
invariant-loop-j l = record {
  point : l.sum < l.self.q ^ l.self.m;
  so_far : l.sum ≡ sum_to l.self.q l.self.m l.self.rows l.v l.j;
}

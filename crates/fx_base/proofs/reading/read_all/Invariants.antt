use Rattle.std.proofs.Common.{length, ◌-◌, ◌≡◌, ◌≤◌}
use Rattle.fx_base.proofs.Steps.{HasRead}
use Rattle.fx_base.proofs.reading.read_all.Given as goal

abbrev pub invariant-reads : goal.invariant-reads
invariant-reads g l = record {
  read : HasRead (g.S.Source.left l.initial.source) (g.S.Source.left l.source) l.bytes;
  same : g.S.Source.faults l.source ≡ g.S.Source.faults l.initial.source;
  unchanged : g.S.Source.sure l.source ≡ g.S.Source.sure l.initial.source;
  small : length l.bytes ≤ l.limit;
}

abbrev pub decreases-reads : goal.decreases-reads
decreases-reads g l = l.limit - length l.bytes

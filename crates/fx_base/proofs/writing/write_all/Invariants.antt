use Rattle.std.proofs.Common.{length, ◌-◌, ◌≡◌, ◌≤◌, take}
use Rattle.fx_base.specs.Writing.{Appends}
use Rattle.fx_base.proofs.writing.write_all.Given as goal

abbrev pub invariant-loop-from : goal.invariant-loop-from
invariant-loop-from g l = record {
  in_range : l.from ≤ length l.piece;
  done : Appends (g.K.Sink.written l.initial.sink) (g.K.Sink.written l.sink) (take l.from l.piece);
  same : g.K.Sink.faults l.sink ≡ g.K.Sink.faults l.initial.sink;
  unchanged : g.K.Sink.room l.sink ≡ g.K.Sink.room l.initial.sink;
}

abbrev pub decreases-loop-from : goal.decreases-loop-from
decreases-loop-from g l = length l.piece - l.from

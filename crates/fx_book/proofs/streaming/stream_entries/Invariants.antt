use Rattle.std.proofs.Common.{◌-◌, ◌≤◌, length, Ok}
use Rattle.std.specs.List.{slice_range}
use Rattle.fx_vectors.specs.Shape.{dimensions_of}
use Rattle.fx_book.specs.declared.version.Version.TheVariants.{Second}
use Rattle.fx_book.specs.Entries.{entries_text}
use Rattle.fx_book.specs.Streaming.{WritesTo}
use Rattle.fx_book.proofs.streaming.stream_entries.Given as goal

abbrev pub invariant-loop-at : goal.invariant-loop-at
invariant-loop-at g l = record {
  within : l.at ≤ length l.marks;
  written : WritesTo {T = Unit {0}} g.K.Sink
      (entries_text Second (dimensions_of l.shape) (slice_range l.marks 0 l.at)) l.fn.sink l.sink (Ok tt);
}

abbrev pub decreases-loop-at : goal.decreases-loop-at
decreases-loop-at g l = length l.marks - l.at

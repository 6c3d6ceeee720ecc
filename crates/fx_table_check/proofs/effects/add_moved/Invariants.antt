use Rattle.std.proofs.Common.{ℕ, ◌≡◌, ◌<◌, ◌≤◌, ◌+◌, ◌^◌, slice_index}
use Rattle.std.specs.Prelude.{min}
use Rattle.fx_points.specs.Sums.{sum_of}
use Rattle.fx_table_check.specs.Effects.{AreFew}
use Rattle.fx_table_check.proofs.effects.add_moved.Given as goal

abbrev pub invariant-loop-x : goal.invariant-loop-x
invariant-loop-x l = record {
  few : AreFew (l.sums.q ^ l.sums.m) l.counts;
  done : (y : ℕ) → y < l.x → slice_index l.counts y
      ≡ min 2 (slice_index l.fn.counts y + slice_index l.lighter (sum_of l.sums.q 1 l.sums.m y l.point));
  left : (y : ℕ) → l.x ≤ y → slice_index l.counts y ≡ slice_index l.fn.counts y;
}

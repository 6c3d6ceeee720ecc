use Rattle.std.proofs.Common.{◌≡◌, ◌<◌, ◌/◌, ◌%◌, ◌+◌, ◌^◌, ℕ, length, slice_index}
use Rattle.fx_points.specs.Sums.{sum_of}
use Rattle.fx_points.proofs.sums.multiples.Given as goal

abbrev pub invariant-loop-i : goal.invariant-loop-i
invariant-loop-i l = record {
  len : length l.points ≡ l.i;
  are : (k : ℕ) → k < l.i
      → slice_index l.points k ≡ sum_of l.fn.field (k / l.fn.field ^ l.fn.m + 1) l.fn.m 0 (k % l.fn.field ^ l.fn.m);
}

use Rattle.std.proofs.Common.{◌≡◌, ◌+◌, ◌^◌, ◌<◌, ◌||◌, ◌&&◌, ℕ, length, slice_index, slice_index_or}
use Rattle.std.specs.Prelude.{nat_lt}
use Rattle.std.specs.List.{list_any}
use Rattle.fx_designs.specs.Galois.{codes_of}
use Rattle.fx_points.specs.Points.{has, no_points}
use Rattle.fx_points.specs.Sums.{sum_of}
use Rattle.fx_barred.proofs.reached.fill_heavier.Given as goal

abbrev pub invariant-loop-w : goal.invariant-loop-w
invariant-loop-w l = record {
  len : length l.after ≡ length l.fn.after;
  kept : slice_index_or l.after 0 no_points ≡ slice_index_or l.fn.after 0 no_points;
  later : (k : ℕ) → l.most < k → slice_index_or l.after k no_points ≡ slice_index_or l.fn.after k no_points;
  next : (w x : ℕ) → w < l.w → x < l.sums.q ^ l.sums.m
      → has (slice_index_or l.after (w + 1) no_points) x
      ≡ (has (slice_index_or l.before (l.old + (w + 1)) no_points) x
      || list_any
      (λ c. nat_lt 0 c
      && has (slice_index_or l.before (l.old + w) no_points)
      (sum_of l.sums.q 1 l.sums.m x (slice_index l.multiples (l.first + c)))) (codes_of l.sums.q));
}

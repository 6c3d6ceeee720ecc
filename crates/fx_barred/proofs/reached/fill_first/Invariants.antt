use Rattle.std.proofs.Common.{◌≡◌, ◌<◌, ◌+◌, ◌^◌, ◌||◌, ◌&&◌, ℕ, slice_index}
use Rattle.std.specs.Prelude.{nat_lt}
use Rattle.std.specs.List.{list_any, range_with_len}
use Rattle.fx_points.specs.Points.{has}
use Rattle.fx_points.specs.Sums.{sum_of}
use Rattle.fx_barred.proofs.reached.fill_first.Given as goal

abbrev pub invariant-loop-c : goal.invariant-loop-c
invariant-loop-c l =
    (x : ℕ) → x < l.fn.sums.q ^ l.fn.sums.m
    → has l.set x
    ≡ (has l.same x
    || list_any
    (λ c. nat_lt 0 c && has l.zero (sum_of l.fn.sums.q 1 l.fn.sums.m x (slice_index l.multiples (l.first + c))))
    (range_with_len 0 l.c))

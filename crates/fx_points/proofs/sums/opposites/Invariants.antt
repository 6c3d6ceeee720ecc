use Rattle.std.proofs.Common.{◌≡◌, ◌<◌, ℕ, length, slice_index}
use Rattle.fx_designs.specs.Galois.{neg}
use Rattle.fx_points.specs.Sums.{sum_of}
use Rattle.fx_points.proofs.sums.opposites.Given as goal

abbrev pub invariant-loop-x : goal.invariant-loop-x
invariant-loop-x l = record {
  len : length l.points ≡ l.x;
  are : (k : ℕ) → k < l.x → slice_index l.points k ≡ sum_of l.fn.field (neg l.fn.field 1) l.fn.m 0 k;
}

use Rattle.std.proofs.Common.{◌≡◌, ◌<◌, ◌%◌, ℕ, length, slice_index}
use Rattle.fx_points.proofs.sums.remainders.Given as goal

abbrev pub invariant-loop-x : goal.invariant-loop-x
invariant-loop-x l = record {
  len : length l.parts ≡ l.x;
  are : (k : ℕ) → k < l.x → slice_index l.parts k ≡ k % l.width;
}

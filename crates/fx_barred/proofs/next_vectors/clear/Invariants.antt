use Rattle.std.proofs.Common.{◌≡◌, ◌<◌, ◌+◌, ℕ, length, slice_index}
use Rattle.fx_barred.proofs.next_vectors.clear.Given as goal

abbrev pub invariant-loop-y : goal.invariant-loop-y
invariant-loop-y l = record {
  len : length l.tables ≡ length l.fn.tables;
  zeros : (y : ℕ) → y < l.y → slice_index l.tables (l.first + y) ≡ 0;
  kept : (k : ℕ) → k < l.first → slice_index l.tables k ≡ slice_index l.fn.tables k;
}

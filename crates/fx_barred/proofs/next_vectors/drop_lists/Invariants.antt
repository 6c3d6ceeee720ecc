use Rattle.std.proofs.Common.{◌≡◌, ◌<◌, ◌+◌, ◌-◌, ◌*◌, ℕ, [], length, slice_index_or}
use Rattle.fx_barred.proofs.next_vectors.drop_lists.Given as goal

abbrev pub invariant-loop-l : goal.invariant-loop-l
invariant-loop-l c = record {
  len : length c.lists ≡ length c.fn.lists;
  kept : (k : ℕ) → 0 < length (slice_index_or c.lists k []) → slice_index_or c.lists k [] ≡ slice_index_or c.fn.lists k [];
  dropped : (l : ℕ) → 0 < l → l < c.l → slice_index_or c.lists (4 * (c.n + (16 - 4 * l)) + l) [] ≡ [];
}

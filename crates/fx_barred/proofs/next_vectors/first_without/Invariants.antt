use Rattle.std.proofs.Common.{◌≢◌, ◌+◌, ◌<◌, ◌≤◌, ℕ, slice_index}
use Rattle.fx_barred.proofs.next_vectors.first_without.Given as goal

abbrev pub invariant-loop-y : goal.invariant-loop-y
invariant-loop-y l = (y : ℕ) → l.from ≤ y → y < l.y → slice_index l.tables (l.first + y) ≢ 0

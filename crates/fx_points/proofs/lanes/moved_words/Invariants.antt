use Rattle.std.proofs.Common.{◌≡◌, ◌<◌, ◌%◌, ◌^◌, ℕ, bit_xor, slice_index}
use Rattle.std.specs.Int.{bit_at}
use Rattle.fx_points.specs.Points.{AreWords}
use Rattle.fx_points.proofs.lanes.moved_words.Given as goal

abbrev pub invariant-loop-b : goal.invariant-loop-b
invariant-loop-b l = record {
  words : AreWords l.moved;
  bits : (k i : ℕ) → k < 16 → i < 64
      → bit_at (slice_index l.moved k) i ≡ bit_at (slice_index l.fn.words k) (bit_xor i (l.x % 2 ^ l.b));
}

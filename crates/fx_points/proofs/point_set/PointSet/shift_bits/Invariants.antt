use Rattle.std.proofs.Common.{◌≡◌, ◌<◌, ◌*◌, ◌/◌, ◌%◌, ℕ, bit_xor, eqb, slice_index}
use Rattle.std.specs.Int.{bit_at}
use Rattle.fx_points.specs.Points.{AreWords, is_one}
use Rattle.fx_points.proofs.point_set.PointSet.shift_bits.Given as goal

abbrev pub invariant-loop-i : goal.invariant-loop-i
invariant-loop-i l = record {
  words : AreWords l.words;
  done : (y : ℕ) → y < 64 * l.i
      → is_one l.words y ≡ eqb (bit_at (slice_index l.moved (bit_xor (y / 64) l.block)) (y % 64)) 1;
}

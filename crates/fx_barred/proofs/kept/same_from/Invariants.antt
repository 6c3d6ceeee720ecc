use Rattle.std.proofs.Common.{◌≡◌, ◌<◌, ◌≤◌, ℕ, length, slice_index}
use Rattle.fx_barred.proofs.kept.same_from.Given as goal

abbrev pub invariant-loop-x : goal.invariant-loop-x
invariant-loop-x l = (y : ℕ) → l.x ≤ y → y < length l.rows → slice_index l.rows y ≡ slice_index l.others y

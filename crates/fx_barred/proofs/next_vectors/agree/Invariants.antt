use Rattle.std.proofs.Common.{◌≡◌, ◌<◌, ◌≤◌, ℕ, slice_index}
use Rattle.fx_barred.proofs.next_vectors.agree.Given as goal

abbrev pub invariant-loop-x : goal.invariant-loop-x
invariant-loop-x l = (x : ℕ) → l.depth ≤ x → x < l.x → slice_index l.u x ≡ slice_index l.v x

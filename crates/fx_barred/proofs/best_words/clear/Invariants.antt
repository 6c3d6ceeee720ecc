use Rattle.std.proofs.Common.{◌≡◌, ◌+◌, ◌<◌, ℕ, None, length, slice_index_or}
use Rattle.fx_barred.proofs.best_words.clear.Given as goal

abbrev pub invariant-loop-x : goal.invariant-loop-x
invariant-loop-x l = record {
  len : length l.tables ≡ length l.fn.tables;
  none : (y : ℕ) → y < l.x → slice_index_or l.tables (l.first + y) None ≡ None;
  kept : (k : ℕ) → k < l.first → slice_index_or l.tables k None ≡ slice_index_or l.fn.tables k None;
}

use Rattle.std.proofs.Common.{◌≡◌, ◌+◌, ◌-◌, ◌<◌, ℕ, None, length, take, slice_index_or}
use Rattle.fx_designs.specs.Problems.{Dimensions, Requirement}
use Rattle.fx_barred.specs.BestWords.{IsBest, AreBest, IsWithin}
use Rattle.fx_barred.proofs.best_words.fill_next.Given as goal

abbrev pub invariant-loop-x : goal.invariant-loop-x
invariant-loop-x l = record {
  len : length l.tables ≡ length l.fn.tables;
  kept : (k : ℕ) → k < l.first → slice_index_or l.tables k None ≡ slice_index_or l.fn.tables k None;
  within : (y : ℕ) → y < l.x → IsWithin l.rows.q (length l.rows.rows) (slice_index_or l.tables (l.first + y) None);
  best : (d : Dimensions) (wanted : Requirement) → d.q ≡ l.rows.q → d.m ≡ l.rows.m → d.s < length l.rows.rows
      → AreBest d wanted (take (length l.rows.rows - 1) l.rows.rows) l.before l.fn.tables
      → (y : ℕ) → y < l.x → IsBest d wanted l.rows.rows y (slice_index_or l.tables (l.first + y) None);
}

use Rattle.std.proofs.Common.{◌≡◌, ◌+◌, ◌<◌, ◌^◌, ℕ, None, length, slice_index_or}
use Rattle.fx_barred.specs.BestWords.{IsBestOf, IsWithin}
use Rattle.fx_barred.proofs.ListedWords.{IsListed}
use Rattle.fx_barred.proofs.best_words.fill_listed.Given as goal

abbrev pub invariant-loop-v : goal.invariant-loop-v
invariant-loop-v l = record {
  len : length l.tables ≡ length l.fn.tables;
  kept : (k : ℕ) → k < l.first → slice_index_or l.tables k None ≡ slice_index_or l.fn.tables k None;
  within : (x : ℕ) → x < l.reached.q ^ l.reached.m
      → IsWithin l.reached.q (length l.reached.rows) (slice_index_or l.tables (l.first + x) None);
  best : (x : ℕ) → x < l.reached.q ^ l.reached.m
      → IsBestOf (IsListed l.reached.q l.reached.m l.reached.rows l.vectors l.v-index x) l.reached.q
      (slice_index_or l.tables (l.first + x) None);
}

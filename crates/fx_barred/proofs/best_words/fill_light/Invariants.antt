use Rattle.std.proofs.Common.{◌≡◌, ◌+◌, ◌-◌, ◌/◌, ◌<◌, ℕ, None, length, slice_index_or}
use Rattle.fx_designs.specs.Problems.{Dimensions, AtResolution}
use Rattle.fx_barred.specs.BestWords.{IsBest, IsWithin}
use Rattle.fx_barred.proofs.best_words.fill_light.Given as goal

abbrev pub invariant-loop-x : goal.invariant-loop-x
invariant-loop-x l = record {
  len : length l.tables ≡ length l.fn.tables;
  kept : (k : ℕ) → k < l.first → slice_index_or l.tables k None ≡ slice_index_or l.fn.tables k None;
  within : (y : ℕ) → y < l.x
      → IsWithin l.reached.q (length l.reached.rows) (slice_index_or l.tables (l.first + y) None);
  best : (d : Dimensions) (r : ℕ) → d.q ≡ l.reached.q → d.m ≡ l.reached.m → length l.reached.rows ≡ d.s → 0 < d.t
      → (r - 1) / 2 ≡ l.most
      → (y : ℕ) → y < l.x → IsBest d (AtResolution r) l.reached.rows y (slice_index_or l.tables (l.first + y) None);
}

use Rattle.std.proofs.Common.{◌≡◌, ◌+◌, ◌<◌, ◌≤◌, ℕ, false, None, slice_index_or}
use Rattle.std.specs.Option.{is_some}
use Rattle.fx_points.specs.Points.{has}
use Rattle.fx_barred.proofs.best_words.points_with_words.Given as goal

abbrev pub invariant-loop-x : goal.invariant-loop-x
invariant-loop-x l = record {
  before : (y : ℕ) → y < l.x → has l.set y ≡ is_some (slice_index_or l.tables (l.first + y) None);
  after : (y : ℕ) → l.x ≤ y → y < 1024 → has l.set y ≡ false;
}

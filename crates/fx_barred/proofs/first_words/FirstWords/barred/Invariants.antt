use Rattle.std.proofs.Common.{◌≡◌, ◌<◌, ◌≤◌, ℕ, true, false, length}
use Rattle.fx_designs.specs.Galois.{neg}
use Rattle.fx_points.specs.Points.{PointsView, has}
use Rattle.fx_points.specs.Sums.{sum_of}
use Rattle.fx_barred.specs.FirstWords.{FirstWordsView, IsFirst, HasNone}
use Rattle.fx_barred.proofs.first_words.FirstWords.barred.Given as goal

-- what the set says of a point
abbrev pub IsSaid : FirstWordsView → PointsView → ℕ → Type 0
IsSaid v set x =
    (has set x ≡ true → (k : ℕ) × IsFirst v.q v.m v.rows v.words (length v.rows) (sum_of v.q (neg v.q 1) v.m 0 x) k)
    × (has set x ≡ false
    → HasNone v.q v.m v.rows v.words (length v.rows) (sum_of v.q (neg v.q 1) v.m 0 x) (length v.words))

abbrev pub invariant-loop-x : goal.invariant-loop-x
invariant-loop-x l = record {
  before : (y : ℕ) → y < l.x → IsSaid l.self l.set y;
  after : (y : ℕ) → l.x ≤ y → y < 1024 → has l.set y ≡ false;
}

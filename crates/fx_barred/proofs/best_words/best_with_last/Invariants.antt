use Rattle.std.proofs.Common.{◌≡◌, ◌-◌, ◌<◌, ℕ, List, length, take, slice_index}
use Rattle.fx_designs.specs.Problems.{Dimensions, Requirement}
use Rattle.fx_barred.specs.BestWords.{BringsToZero, IsBestOf, AreBest, IsWithin}
use Rattle.fx_barred.proofs.best_words.best_with_last.Given as goal

-- the words whose code for the last row is below a bound
abbrev pub HasCodeBelow : Dimensions → Requirement → List ℕ → ℕ → ℕ → List ℕ → Type 0
HasCodeBelow d wanted rows x bound v = BringsToZero d wanted rows x v × (slice_index v (length rows - 1) < bound)

abbrev pub invariant-loop-code : goal.invariant-loop-code
invariant-loop-code l = record {
  within : IsWithin l.rows.q (length l.rows.rows) l.best;
  best : (d : Dimensions) (wanted : Requirement) → d.q ≡ l.rows.q → d.m ≡ l.rows.m → d.s < length l.rows.rows
      → AreBest d wanted (take (length l.rows.rows - 1) l.rows.rows) l.before l.tables
      → IsBestOf (HasCodeBelow d wanted l.rows.rows l.x l.code) d.q l.best;
}

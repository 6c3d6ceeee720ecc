-- How the program ends: with a status below 4, or stopped before its end, and for what cause.
use Rattle.std.specs.Prelude.{ℕ, ◌≡◌, ◌≢◌, ◌⊎◌, List, [], ◌∷◌, Result, Ok, Err}
use Rattle.fx_base.specs.Faults.{Rose}
use Rattle.fx_base.specs.declared.reading.ReadStop.{ReadStop}
use Rattle.fx_base.specs.declared.reading.ReadStop.TheVariants as read
use Rattle.fx_book.specs.declared.streaming.WriteStop.{WriteStop}
use Rattle.fx_book.specs.declared.streaming.WriteStop.TheVariants as write
use Rattle.fx_program.specs.declared.stop.Stop.{Stop}
use Rattle.fx_program.specs.declared.stop.Stop.TheVariants as stop

-- why the program stops where the text was not read
abbrev pub reading_stop : ReadStop → Stop
reading_stop read.ReadFault = stop.Failed
reading_stop read.NoMemory = stop.NoMemory

-- why the program stops where a book was not written whole
abbrev pub writing_stop : WriteStop → Stop
writing_stop write.WriteFault = stop.Failed
writing_stop write.NoMemory = stop.NoMemory

-- the exit status
abbrev pub exit_status : Result ℕ Stop → ℕ
exit_status (Ok status) = status
exit_status (Err stop.Failed) = 4
exit_status (Err stop.NoMemory) = 5

-- of some counts of failed calls, before and now, one rose
abbrev pub SomeRose : List ℕ → List ℕ → Type 0
SomeRose [] now = ⊥
SomeRose (count ∷ before) [] = ⊥
SomeRose (count ∷ before) (new ∷ now) = Rose count new ⊎ SomeRose before now

-- stopped by a failed call only where a count of failed calls rose; with any other result all counts are as before
pub record HasCause {T : Type 0} (before now : List ℕ) (result : Result T Stop) : Type 0 where
  pub failed : result ≡ Err stop.Failed → SomeRose before now
  pub unchanged : result ≢ Err stop.Failed → now ≡ before

-- the same of an exit status
pub record HasStatusCause (before now : List ℕ) (status : ℕ) : Type 0 where
  pub failed : status ≡ 4 → SomeRose before now
  pub unchanged : status ≢ 4 → now ≡ before

-- A book that is written to a sink in parts: all of its text, or a prefix where this is stopped.
use Rattle.std.specs.Prelude.{ℕ, ◌≡◌, ◌≤◌, List, OnOk, Result, Ok, Err}
use Rattle.fx_base.specs.Faults.{Rose}
use Rattle.fx_base.specs.Writing.{Appends, AppendsPart}
use Rattle.fx_base.specs.declared.sink.Sink as sink
use Rattle.fx_book.specs.declared.streaming.WriteStop.{WriteStop}
use Rattle.fx_book.specs.declared.streaming.WriteStop.TheVariants.{NoMemory, WriteFault}

-- a fault comes only where the count of failed calls rose, and every other result leaves the count
abbrev pub HasWriteCause : {T : Type 0} → ℕ → ℕ → Result T WriteStop → Type 0
HasWriteCause before now (Ok done) = now ≡ before
HasWriteCause before now (Err NoMemory) = now ≡ before
HasWriteCause before now (Err WriteFault) = Rose before now × (before ≤ now)

-- a call that writes these bytes
pub record WritesTo {K T : Type 0} (members : sink.Ghosts K) (bytes : List ℕ) (old new : K) (result : Result T WriteStop)
    : Type 0 where
  pub done : OnOk result (Appends (members.written old) (members.written new) bytes)
  pub part : AppendsPart (members.written old) (members.written new) bytes
  pub cause : HasWriteCause (members.faults old) (members.faults new) result
  pub room : members.room new ≡ members.room old

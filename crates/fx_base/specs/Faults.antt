-- How many calls on an object outside the program failed, and what a failed call leaves.
use Rattle.std.specs.Prelude.{ℕ, ◌≡◌, ◌≤◌, ◌+◌, ◌-◌, ◌^◌, min, Option, Some, Result, OnOk, OnErr}

-- one more, or the last value of a counter
abbrev pub raised : ℕ → ℕ
raised count = min (count + 1) (2 ^ 64 - 1)

-- the count grew, or stands at the last value of a counter
abbrev pub Rose : ℕ → ℕ → Type 0
Rose before now = raised before ≤ now

-- the count never falls, it rose where the call failed, and it stays where the call did not
pub record HasCause {T E : Type 0} (before now : ℕ) (result : Result T E) : Type 0 where
  pub later : before ≤ now
  pub failed : OnErr result (Rose before now)
  pub unchanged : OnOk result (now ≡ before)

-- what the object exposed of its content is unchanged; nothing is said where it exposed nothing
pub record IsUnchanged {T : Type 0} (old new : Option T) : Type 0 where
  pub exposed : (content : T) → old ≡ Some content → new ≡ Some content

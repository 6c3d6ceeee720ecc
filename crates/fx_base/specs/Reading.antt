-- What a call that reads does to what is left, which a source may expose or not.
use Rattle.std.specs.Prelude.{ℕ, ◌≡◌, ◌<◌, ◌≤◌, List, [], length, take, drop, Option, Result, Some, Ok, Err}
use Rattle.fx_base.specs.Faults.{Rose}
use Rattle.fx_base.specs.declared.reading.Taken.{Taken}
use Rattle.fx_base.specs.declared.reading.Taken.TheVariants.{Whole, TooLong}
use Rattle.fx_base.specs.declared.reading.ReadStop.{ReadStop}
use Rattle.fx_base.specs.declared.reading.ReadStop.TheVariants.{NoMemory, ReadFault}

-- n bytes of the front of the text went to the front of the buffer; none for a nonempty buffer is the end
pub record TakesFrom (text : List ℕ) (now : Option (List ℕ)) (buffer : List ℕ) (n : ℕ) : Type 0 where
  pub some : n ≤ length text
  pub front : take n buffer ≡ take n text
  pub rest : now ≡ Some (drop n text)
  pub end : n ≡ 0 → 0 < length buffer → text ≡ []

-- the same, where the source exposed what was left
pub record Takes (left now : Option (List ℕ)) (buffer : List ℕ) (n : ℕ) : Type 0 where
  pub exposed : (text : List ℕ) → left ≡ Some text → TakesFrom text now buffer n

-- the bytes are all that were left, they are within the limit, and nothing is left
pub record IsAllLeft (left now : Option (List ℕ)) (limit : ℕ) (bytes : List ℕ) : Type 0 where
  pub within : length bytes ≤ limit
  pub all : (text : List ℕ) → left ≡ Some text → bytes ≡ text
  pub end : (text : List ℕ) → left ≡ Some text → now ≡ Some []

-- more bytes than the limit were left
pub record IsOverLimit (left : Option (List ℕ)) (limit : ℕ) : Type 0 where
  pub exposed : (text : List ℕ) → left ≡ Some text → limit < length text

-- all that was left was taken, or more than the limit was left
abbrev pub ReadsAll : Option (List ℕ) → Option (List ℕ) → ℕ → Taken → Type 0
ReadsAll left now limit (Whole bytes) = IsAllLeft left now limit bytes
ReadsAll left now limit TooLong = IsOverLimit left limit

-- what is left is what was left but for a prefix
pub record LeavesRest (left now : Option (List ℕ)) : Type 0 where
  pub taken : ℕ
  pub exposed : (text : List ℕ) → left ≡ Some text → now ≡ Some (drop taken text)

-- a fault comes only where the count rose, and every other answer leaves the count
abbrev pub HasReadCause : ℕ → ℕ → Result Taken ReadStop → Type 0
HasReadCause before now (Ok taken) = now ≡ before
HasReadCause before now (Err NoMemory) = now ≡ before
HasReadCause before now (Err ReadFault) = Rose before now × (before ≤ now)

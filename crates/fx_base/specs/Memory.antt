-- What contracts see of the sources, sinks and shelves in memory.
use Rattle.std.specs.Prelude.{ℕ, ◌≡◌, ◌<◌, ◌≤◌, ◌+◌, min, List, [], ◌∷◌, length, Bool, true, false, not, Option, Some}
use Rattle.std.specs.Prelude.{None, Contains}
use Rattle.fx_base.specs.Faults.{raised}
use Rattle.fx_base.specs.Acts.{File}

-- a sink in memory: what was written, how many bytes a call takes at most, how many find room, how many calls failed
pub record SinkInMemory : Type 0 where
  pub written : List ℕ
  pub step : ℕ
  pub room : ℕ
  pub faults : ℕ

-- how many bytes a call moves: at most a step, at most those that are there or find room, at most those asked for
abbrev pub portion : ℕ → ℕ → ℕ → ℕ
portion step there asked = min (min step there) asked

-- while room is left no call has failed, and the memory for the room is taken
pub record IsSureSink (len capacity step room faults : ℕ) : Type 0 where
  pub within : len ≤ room
  pub reserved : room ≤ capacity
  pub steps : 0 < step
  pub sure : len < room → faults ≡ 0

-- files in memory, and the room for them
pub record FilesInMemory : Type 0 where
  pub files : List File
  pub room : ℕ

-- a shelf in memory: its files, how many bytes a call takes at most, how many find room, how many calls failed
pub record ShelfInMemory : Type 0 where
  pub files : List File
  pub step : ℕ
  pub room : ℕ
  pub faults : ℕ

-- whether the last file is begun and not ended
abbrev pub has_open : List File → Bool
has_open [] = false
has_open (file ∷ []) = not file.ended
has_open (file ∷ next ∷ files) = has_open (next ∷ files)

-- the room that files take: 64 bytes each, and one for each byte of content
abbrev pub room_of : List File → ℕ
room_of [] = 0
room_of (file ∷ files) = 64 + length file.content + room_of files

-- while a file could be begun no call has failed
pub record IsSureShelf (files : List File) (step room faults : ℕ) : Type 0 where
  pub within : room_of files ≤ room
  pub steps : 0 < step
  pub sure : room_of files + 64 ≤ room → faults ≡ 0

-- a source in memory: what is left, and how many bytes a call gives at most
pub record SourceInMemory : Type 0 where
  pub left : List ℕ
  pub step : ℕ

-- the numbers of the calls that are to fail, counted from 1, and how many calls were made
pub record CallsMade : Type 0 where
  pub failing : List ℕ
  pub made : ℕ

-- the next call is one of those that are to fail
abbrev pub IsListed : List ℕ → ℕ → Type 0
IsListed failing made = Contains failing (raised made)

-- no call is listed
abbrev pub none_listed : List ℕ → Bool
none_listed [] = true
none_listed (call ∷ failing) = false

-- the room, where no call is listed
abbrev pub sure_room : List ℕ → ℕ → Option ℕ
sure_room [] room = Some room
sure_room (call ∷ failing) room = None

-- a source in memory some of whose calls fail
pub record FailingSource : Type 0 where
  pub left : List ℕ
  pub step : ℕ
  pub failing : List ℕ
  pub made : ℕ
  pub faults : ℕ

-- a sink in memory some of whose calls fail, beside those without room
pub record FailingSink : Type 0 where
  pub written : List ℕ
  pub step : ℕ
  pub room : ℕ
  pub failing : List ℕ
  pub made : ℕ
  pub faults : ℕ

-- a shelf in memory some of whose calls fail, beside those without room
pub record FailingShelf : Type 0 where
  pub files : List File
  pub step : ℕ
  pub room : ℕ
  pub failing : List ℕ
  pub made : ℕ
  pub faults : ℕ

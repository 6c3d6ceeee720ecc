-- What the program finds outside, and how a command, or a stage of one, ends there.
use Rattle.std.specs.Prelude.{ℕ, ◌≡◌, ◌<◌, List, [], ◌∷◌, map, Option, Some, Result, Bool, true, false, IfOk, OnOk}
use Rattle.fx_base.specs.Acts.{Event, File, FileByte, Shelves, ShelvesPart, World}
use Rattle.fx_base.specs.declared.source.Source as source
use Rattle.fx_base.specs.declared.sink.Sink as sink
use Rattle.fx_base.specs.declared.shelf.Shelf as shelf
use Rattle.fx_program.specs.Output.{Gives, Output, Shelved, ShelvedPart, world}
use Rattle.fx_program.specs.Commands.{Command}
use Rattle.fx_program.specs.Stops.{HasCause, exit_status}
use Rattle.fx_program.specs.declared.stop.Stop.{Stop}

-- A source as a contract sees it: what it has left, where it exposes that, the count of its failed calls, and whether
-- it is known that none fails.
pub record SourceView : Type 0 where
  pub left : Option (List ℕ)
  pub faults : ℕ
  pub sure : Bool

abbrev pub source_view : {S : Type 0} → source.Ghosts S → S → SourceView
source_view members it = record { left = members.left it; faults = members.faults it; sure = members.sure it }

-- a sink: what is written, the count, and the room, where calls are known to fail for want of room alone
pub record SinkView : Type 0 where
  pub written : Option (List ℕ)
  pub faults : ℕ
  pub room : Option ℕ

abbrev pub sink_view : {K : Type 0} → sink.Ghosts K → K → SinkView
sink_view members it = record { written = members.written it; faults = members.faults it; room = members.room it }

-- a shelf: its files, whether one is begun and not ended, the count, and the room
pub record ShelfView : Type 0 where
  pub files : Option (List File)
  pub begun : Bool
  pub faults : ℕ
  pub room : Option ℕ

abbrev pub shelf_view : {F : Type 0} → shelf.Ghosts F → F → ShelfView
shelf_view members it = record {
  files = members.files it;
  begun = members.begun it;
  faults = members.faults it;
  room = members.room it;
}

-- the three objects that a command works on
pub record Outside : Type 0 where
  pub source : SourceView
  pub listing : SinkView
  pub shelf : ShelfView

abbrev pub outside : SourceView → SinkView → ShelfView → Outside
outside source listing shelf = record { source = source; listing = listing; shelf = shelf }

-- what is written, and the files
abbrev pub world_of : Outside → World
world_of o = world o.listing.written o.shelf.files

-- the counts of their failed calls
abbrev pub faults_of : Outside → List ℕ
faults_of o = o.source.faults ∷ o.listing.faults ∷ o.shelf.faults ∷ []

-- what is known of their room is the same
pub record HaveSameRooms (old new : Outside) : Type 0 where
  pub source : new.source.sure ≡ old.source.sure
  pub listing : new.listing.room ≡ old.listing.room
  pub shelf : new.shelf.room ≡ old.shelf.room

-- A stage that gives this output has ended with a status below 4, or is stopped. Stopped for a failed call it has
-- raised a count, else all counts are unchanged. Where it is not stopped, it leaves no file begun.
pub record Ends (output : Output) (old new : Outside) (result : Result ℕ Stop) : Type 0 where
  pub low : IfOk result (λ status. status < 4)
  pub gives : Gives output (world_of old) (world_of new) (exit_status result)
  pub cause : HasCause (faults_of old) (faults_of new) result
  pub rooms : HaveSameRooms old new
  pub closed : OnOk result (new.shelf.begun ≡ false)

-- the same of a stage that has the listing and the shelf alone: whatever the source is, it stays as it is
pub record Writes (output : Output) (old new : SinkView) (before now : ShelfView) (result : Result ℕ Stop)
    : Type 0 where
  pub whatever : (source : SourceView) → Ends output (outside source old before) (outside source new now) result

-- the same of a stage that has the listing alone
pub record Lists (output : Output) (old new : SinkView) (result : Result ℕ Stop) : Type 0 where
  pub whatever : (source : SourceView) (shelf : ShelfView) → shelf.begun ≡ false
      → Ends output (outside source old shelf) (outside source new shelf) result

-- a stage that has the shelf alone has shelved these files, or is stopped in them
pub record ShelvesFiles {T : Type 0} (events : List Event) (old new : ShelfView) (result : Result T Stop) : Type 0 where
  pub done : OnOk result (Shelved events old.files new.files)
  pub part : ShelvedPart events old.files new.files
  pub cause : HasCause (old.faults ∷ []) (new.faults ∷ []) result
  pub room : new.room ≡ old.room
  pub closed : OnOk result (new.begun ≡ false)

-- a stage that has the shelf alone has appended these bytes to the file that is begun, or is stopped in them
pub record Fills {T : Type 0} (bytes : List ℕ) (old new : ShelfView) (result : Result T Stop) : Type 0 where
  pub done : OnOk result (Shelves old.files new.files (map FileByte bytes))
  pub part : ShelvesPart old.files new.files (map FileByte bytes)
  pub cause : HasCause (old.faults ∷ []) (new.faults ∷ []) result
  pub room : new.room ≡ old.room
  pub begun : OnOk result (new.begun ≡ true)

-- a stage that has the listing and the shelf alone, and gives some output of a kind
pub record WritesSome (Given : Output → Type 0) (old new : SinkView) (before now : ShelfView) (result : Result ℕ Stop)
    : Type 0 where
  pub output : Output
  pub given : Given output
  pub writes : Writes output old new before now result

-- What a command gives for some text: that of the source, where the source is read and exposes it. A source that
-- exposes nothing had some text all the same.
pub record GivesForSome (command : Command) (left : Option (List ℕ)) (old new : World) (status : ℕ) : Type 0 where
  pub text : List ℕ
  pub exposed : command.reads ≡ true → (known : List ℕ) → left ≡ Some known → known ≡ text
  pub output : Output
  pub given : command.gives text output
  pub gives : Gives output old new status

-- A command has ended for some such text, or is stopped. A status below that of a refusal comes only with such a text
-- read to its end, if the command reads that.
pub record IsCarriedOut (command : Command) (old new : Outside) (result : Result ℕ Stop) : Type 0 where
  pub text : List ℕ
  pub exposed : command.reads ≡ true → (known : List ℕ) → old.source.left ≡ Some known → known ≡ text
  pub output : Output
  pub given : command.gives text output
  pub ends : Ends output old new result
  pub read_to_end : exit_status result < 3 → (known : List ℕ)
      → command.reads_all_of known ≡ true
      → old.source.left ≡ Some known
      → new.source.left ≡ Some []

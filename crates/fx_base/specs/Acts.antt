-- What is done on the listing and on the shelf, act by act, and what it comes to.
use Rattle.std.specs.Prelude.{ℕ, ◌≡◌, ◌++◌, List, [], ◌∷◌, map, take, Option, Some, Bool, true, false}
use Rattle.fx_base.specs.Writing.{Appends}

-- a byte goes to the listing; a file of this name is begun, takes a byte, is ended
pub data Act : Type 0 where
  ListByte : ℕ → Act
  BeginFile : List ℕ → Act
  FileByte : ℕ → Act
  EndFile : Act

-- a file on the shelf
pub record File : Type 0 where
  pub name : List ℕ
  pub content : List ℕ
  pub ended : Bool

-- the bytes that the acts append to the listing
abbrev pub listed : List Act → List ℕ
listed [] = []
listed (ListByte byte ∷ acts) = byte ∷ listed acts
listed (BeginFile name ∷ acts) = listed acts
listed (FileByte byte ∷ acts) = listed acts
listed (EndFile ∷ acts) = listed acts

-- the last file changed
abbrev pub on_last : (File → File) → List File → List File
on_last change [] = []
on_last change (f ∷ []) = change f ∷ []
on_last change (f ∷ g ∷ files) = f ∷ on_last change (g ∷ files)

-- a file with one more byte
abbrev pub with_byte : ℕ → File → File
with_byte byte f = record { name = f.name; content = f.content ++ byte ∷ []; ended = f.ended }

-- a file that is ended
abbrev pub as_ended : File → File
as_ended f = record { name = f.name; content = f.content; ended = true }

-- the files after the acts
abbrev pub shelved : List Act → List File → List File
shelved [] files = files
shelved (ListByte byte ∷ acts) files = shelved acts files
shelved (BeginFile name ∷ acts) files = shelved acts (files ++ record { name = name; content = []; ended = false } ∷ [])
shelved (FileByte byte ∷ acts) files = shelved acts (on_last (with_byte byte) files)
shelved (EndFile ∷ acts) files = shelved acts (on_last as_ended files)

-- the acts were done on the shelf, where it exposes its files
pub record Shelves (old new : Option (List File)) (acts : List Act) : Type 0 where
  pub exposed : (files : List File) → old ≡ Some files → new ≡ Some (shelved acts files)

-- a prefix of the acts was done on the shelf
pub record ShelvesPart (old new : Option (List File)) (all : List Act) : Type 0 where
  pub done : List Act
  pub left : List Act
  pub front : done ++ left ≡ all
  pub did : Shelves old new done

-- what has to be done: a piece of the listing, or a file with its name and content
pub data Event : Type 0 where
  Piece : List ℕ → Event
  WholeFile : List ℕ → List ℕ → Event

-- the acts of one event
abbrev pub acts_of : Event → List Act
acts_of (Piece bytes) = map ListByte bytes
acts_of (WholeFile name content) = BeginFile name ∷ (map FileByte content ++ EndFile ∷ [])

-- the acts of events, one after another
abbrev pub acts : List Event → List Act
acts [] = []
acts (event ∷ events) = acts_of event ++ acts events

-- listing and shelf, where they expose what they hold
pub record World : Type 0 where
  pub written : Option (List ℕ)
  pub files : Option (List File)

-- exactly these acts were done
pub record Did (old new : World) (done : List Act) : Type 0 where
  pub listing : Appends old.written new.written (listed done)
  pub shelf : Shelves old.files new.files done

-- a prefix of these acts was done, and nothing else
pub record DidPart (old new : World) (all : List Act) : Type 0 where
  pub done : List Act
  pub left : List Act
  pub front : done ++ left ≡ all
  pub did : Did old new done

-- the bytes of the pieces among the events
abbrev pub pieces : List Event → List ℕ
pieces [] = []
pieces (Piece bytes ∷ events) = bytes ++ pieces events
pieces (WholeFile name content ∷ events) = pieces events

-- an ended file
abbrev pub whole_file : List ℕ → List ℕ → File
whole_file name content = record { name = name; content = content; ended = true }

-- the files among the events
abbrev pub files_of : List Event → List File
files_of [] = []
files_of (Piece bytes ∷ events) = files_of events
files_of (WholeFile name content ∷ events) = whole_file name content ∷ files_of events

-- How far acts have come in a list of events, and what they have done there: bytes listed, files shelved. Events before
-- some one are whole. Of that one some first bytes may stand, with its file not ended. Nothing of a later one stands.
pub data HasCome : List Event → List ℕ → List File → Type 0 where
  AtStart : {events : List Event} → HasCome events [] []
  InPiece : {bytes : List ℕ} {events : List Event} (n : ℕ) → HasCome (Piece bytes ∷ events) (take n bytes) []
  InFile : {name content : List ℕ} {events : List Event} (n : ℕ)
      → HasCome (WholeFile name content ∷ events) []
      (record { name = name; content = take n content; ended = false } ∷ [])
  PastPiece : {bytes : List ℕ} {events : List Event} {listing : List ℕ} {files : List File}
      → HasCome events listing files → HasCome (Piece bytes ∷ events) (bytes ++ listing) files
  PastFile : {name content : List ℕ} {events : List Event} {listing : List ℕ} {files : List File}
      → HasCome events listing files
      → HasCome (WholeFile name content ∷ events) listing (whole_file name content ∷ files)

-- what stands on listing and shelf, where the run began at this listing and these files
pub record Stands (events : List Event) (text : List ℕ) (files : List File) (now : World) : Type 0 where
  pub listing : List ℕ
  pub added : List File
  pub come : HasCome events listing added
  pub written : now.written ≡ Some (text ++ listing)
  pub shelf : now.files ≡ Some (files ++ added)

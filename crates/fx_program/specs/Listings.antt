-- A listing of a head and of a line for each number of factors, up to the first line without a design.
use Rattle.std.specs.Prelude.{ℕ, suc, zero, ◌≡◌, ◌<◌, ◌≤◌, ◌+◌, ◌-◌, List, [], ◌∷◌, ◌++◌, Option, None, Some, length}
use Rattle.fx_base.specs.Acts.{Event, WholeFile}
use Rattle.fx_base.specs.Pieces.{joined}
use Rattle.fx_program.specs.declared.lister.BookFile.{BookFile}
use Rattle.fx_program.specs.declared.lister.ListedLine.{ListedLine}
use Rattle.fx_program.specs.Output.{Output, message, with_files, worse}

-- outputs in turn, after these events and this status; the greatest status decides
abbrev pub in_turn : List Event → ℕ → List Output → Output
in_turn events status [] = record { events = events; status = status }
in_turn events status (given ∷ later) = in_turn (events ++ given.events) (worse status given.status) later

-- Lines for n factors and more, of which each may be given for its number, and no more than so many: the first without
-- a design is the last.
abbrev pub AreLines : (ℕ → Output → Type 0) → ℕ → ℕ → List Output → Type 0
AreLines IsLine n zero lines = lines ≡ []
AreLines IsLine n (suc most) [] = ⊥
AreLines IsLine n (suc most) (line ∷ lines) =
    IsLine n line
    × ((line.status ≡ 1 → lines ≡ []) × ((line.status ≡ 1 → ⊥) → AreLines IsLine (n + 1) most lines))

-- what is given for a head and such lines, from the first number of factors to the last
pub record IsListing (head : List ℕ) (IsLine : ℕ → Output → Type 0) (first last : ℕ) (given : Output) : Type 0 where
  pub lines : List Output
  pub are : AreLines IsLine first (last + 1 - first) lines
  pub is : given ≡ in_turn [] 0 (message head 0 ∷ lines)

-- the file of a book
abbrev pub book_events : Option BookFile → List Event
book_events (Some file) = WholeFile file.name.items (joined file.pieces) ∷ []
book_events None = []

abbrev pub HasShortName : Option BookFile → Type 0
HasShortName (Some file) = (1 ≤ length file.name.items) × (length file.name.items ≤ 64)
HasShortName None = Unit {0}

-- what is given for a line: the file of its book, and then its text
abbrev pub line_given : ListedLine → Output
line_given line = with_files (book_events line.book) line.text line.status

pub record IsListable (line : ListedLine) : Type 0 where
  pub name : HasShortName line.book
  pub status : line.status < 4

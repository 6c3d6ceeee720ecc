-- A catalogue: for some levels and runs the lines of more and more factors, up to the first without a design.
use Rattle.std.specs.Prelude.{ℕ, ◌+◌, ◌-◌, Bool, true, false, if◌then◌else◌, List, [], ◌∷◌, ◌++◌, map, codes, decimal}
use Rattle.std.specs.List.{flat_map, list_any, range_with_len}
use Rattle.fx_base.specs.Acts.{Event, Piece, WholeFile}
use Rattle.fx_vectors.specs.declared.shape.Shape.{Shape}
use Rattle.fx_book.specs.Writing.{book_text}
use Rattle.fx_vectors.specs.declared.book.Book.{Book}
use Rattle.fx_catalogue.specs.declared.line.Line.{Line}
use Rattle.fx_catalogue.specs.declared.line.Line.TheVariants.{Least, Nothing, Budget}
use Rattle.fx_catalogue.specs.Lines.{line_of}
use Rattle.fx_catalogue.specs.Listing.{head_text, line_text}

-- the shape of a line: q levels, q^m runs, s factors, no block factors
abbrev pub shape_at : ℕ → ℕ → ℕ → Shape
shape_at q m s = record { q = q; m = m; s = s; t = 0 }

-- the items up to the first that passes, which is the last
abbrev pub up_to : {X : Type 0} → (X → Bool) → List X → List X
up_to ends [] = []
up_to ends (x ∷ xs) = x ∷ (if ends x then [] else up_to ends xs)

-- no matrix has so many factors, and so none has more
abbrev pub is_nothing : Line → Bool
is_nothing (Least matrix pattern nodes book) = false
is_nothing (Nothing nodes book) = true
is_nothing Budget = false

abbrev pub is_budget : Line → Bool
is_budget (Least matrix pattern nodes book) = false
is_budget (Nothing nodes book) = false
is_budget Budget = true

-- a line with its number of factors
pub record Entry : Type 0 where
  pub factors : ℕ
  pub line : Line

abbrev pub entry_at : ℕ → ℕ → ℕ → ℕ → Entry
entry_at q m budget s = record { factors = s; line = line_of (shape_at q m s) budget }

-- the entries for m + 1 factors and more, at most `most`, each with the whole budget. The first without a design is the
-- last; one that its budget ended is not.
unfoldable pub entries : ℕ → ℕ → ℕ → ℕ → List Entry
entries q m most budget =
    up_to (λ (e : Entry). is_nothing e.line) (map (entry_at q m budget) (range_with_len (m + 1) (most - m)))

-- the name of the file of a book
abbrev pub book_name : ℕ → List ℕ
book_name s = codes "catalogue-" ++ (decimal s ++ codes ".book")

abbrev pub book_file : ℕ → Book → Event
book_file s book = WholeFile (book_name s) (book_text book)

-- the file of the book of a finished question
abbrev pub files_of : ℕ → Line → List Event
files_of s (Least matrix pattern nodes book) = book_file s book ∷ []
files_of s (Nothing nodes book) = book_file s book ∷ []
files_of s Budget = []

-- the book, and then the line
abbrev pub entry_events : ℕ → Entry → List Event
entry_events budget e = files_of e.factors e.line ++ Piece (line_text budget e.factors e.line) ∷ []

-- all events of a catalogue
abbrev pub catalogue_events : ℕ → ℕ → ℕ → ℕ → List Event
catalogue_events q m most budget = Piece (head_text q m) ∷ flat_map (entry_events budget) (entries q m most budget)

-- 2 where some budget ended, else 1 where the last line has no design, else 0
abbrev pub entries_status : List Entry → ℕ
entries_status list =
    if list_any (λ (e : Entry). is_budget e.line) list then 2
    else (if list_any (λ (e : Entry). is_nothing e.line) list then 1 else 0)

abbrev pub catalogue_status : ℕ → ℕ → ℕ → ℕ → ℕ
catalogue_status q m most budget = entries_status (entries q m most budget)

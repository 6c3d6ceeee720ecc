-- What the command `catalogue` gives.
use Rattle.std.specs.Prelude.{ℕ, ◌<◌, ◌≤◌}
use Rattle.fx_vectors.specs.Shape.{IsShape}
use Rattle.fx_catalogue.specs.Catalogues.{Entry, catalogue_events, catalogue_status, files_of}
use Rattle.fx_catalogue.specs.Listing.{line_text}
use Rattle.fx_catalogue.specs.declared.line.Line.{Line}
use Rattle.fx_catalogue.specs.declared.line.Line.TheVariants.{Least, Nothing, Budget}
use Rattle.fx_program.specs.CommandLine.{IsCatalogue}
use Rattle.fx_program.specs.Output.{Output, with_files}

-- the status of a line: 0 for a design, 1 for none, 2 where the budget ended
abbrev pub line_status : Line → ℕ
line_status (Least matrix pattern nodes book) = 0
line_status (Nothing nodes book) = 1
line_status Budget = 2

-- the shape of the book's question, where there is a book, is within the limits
abbrev pub HasShapedBook : Line → Type 0
HasShapedBook (Least matrix pattern nodes book) = IsShape book.head.question.shape
HasShapedBook (Nothing nodes book) = IsShape book.head.question.shape
HasShapedBook Budget = Unit {0}

-- what is given for a line within this budget: the file of its book, where its question was finished, and the line
abbrev pub entry_output : ℕ → Entry → Output
entry_output budget e =
    with_files (files_of e.factors e.line) (line_text budget e.factors e.line) (line_status e.line)

-- a number of factors of which a catalogue has a line
pub record IsNumber (q m most budget s : ℕ) : Type 0 where
  pub numbers : IsCatalogue q m most budget
  pub above : m < s
  pub within : s ≤ most

-- what is given for a catalogue: of designs with q levels, q^m runs and at most so many factors, within this budget
abbrev pub catalogue_output : ℕ → ℕ → ℕ → ℕ → Output
catalogue_output q m most budget =
    record { events = catalogue_events q m most budget; status = catalogue_status q m most budget }

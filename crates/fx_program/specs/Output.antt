-- What the program gives: pieces of listing and files, and a status.
use Rattle.std.specs.Prelude.{ℕ, ◌≡◌, ◌+◌, ◌<◌, nat_le, if◌then◌else◌, List, [], ◌∷◌, ◌++◌, map, Option, Result, Ok}
use Rattle.std.specs.Prelude.{Err}
use Rattle.fx_base.specs.Acts.{Event, Piece, acts, World, File, Did, DidPart}
use Rattle.fx_designs.specs.Outcomes.{Ending}
use Rattle.fx_alias.specs.Sections.{step_lines}
use Rattle.fx_vectors.specs.declared.book.Book.{Book}
use Rattle.fx_vectors.specs.declared.book.NamedBook.{NamedBook}
use Rattle.fx_book.specs.declared.fault.BookFault.{BookFault}
use Rattle.fx_book.specs.Writing.{book_text}
use Rattle.fx_checker.specs.Books.{flaw_of}
use Rattle.fx_checker.specs.Claims.{claim_of}
use Rattle.fx_checker.specs.Verdicts.{verdict_of}
use Rattle.fx_statements.specs.Questions.{Conclusion, outcome_of}
use Rattle.fx_statements.specs.Steps.{Meaning}
use Rattle.fx_answer.specs.Books.{books_of}
use Rattle.fx_program.specs.Messages.{fault_line}
use Rattle.fx_program.specs.Statuses.{status_of}
use Rattle.fx_program.specs.Summaries.{summary_lines}
use Rattle.fx_program.specs.Files.{book_files, book_lines, design_files, design_lines, matrix_in}
use Rattle.fx_program.specs.Plans.{AskedView, asked_by}
use Rattle.fx_program.specs.Verdicts.{book_fault_line, verdict_lines, verdict_status}
use Rattle.fx_program.specs.declared.text.TextFault.{TextFault}

-- what is done outside, and the status
pub record Output : Type 0 where
  pub events : List Event
  pub status : ℕ

-- one piece of listing
abbrev pub message : List ℕ → ℕ → Output
message bytes status = record { events = Piece bytes ∷ []; status = status }

-- files, and then one piece of listing
abbrev pub with_files : List Event → List ℕ → ℕ → Output
with_files files bytes status = record { events = files ++ Piece bytes ∷ []; status = status }

-- what is given for the step of this number with these books and this outcome, by the program's seed and after the
-- earlier OUTPUT statements: the files of its books, its plans and its fold-over, then its lines with those that name
-- the files, and its status
abbrev pub outcome_given : ℕ → ℕ → List AskedView → Meaning → List NamedBook → Conclusion → Output
outcome_given seed number earlier step books outcome =
    let matrix = matrix_in outcome.dimensions outcome.ending in
    with_files (book_files number books ++ design_files seed number earlier step matrix)
    (step_lines number step (book_lines number books) outcome ++ design_lines seed number earlier step matrix)
    (status_of outcome.ending)

-- what is given for a step, by its outcome and its books
abbrev pub step_output : ℕ → ℕ → List AskedView → Meaning → Output
step_output seed number earlier step = outcome_given seed number earlier step (books_of step) (outcome_of step)

-- the status of a step, whatever its number, the seed and the earlier OUTPUT statements
abbrev pub step_status : Meaning → ℕ
step_status step = (step_output 0 1 [] step).status

-- the OUTPUT statements of a step, with the matrix that it ends with
abbrev pub asked_of : Meaning → List AskedView
asked_of step = asked_by step (matrix_in (outcome_of step).dimensions (outcome_of step).ending)

-- the greater of two statuses
abbrev pub worse : ℕ → ℕ → ℕ
worse a b = if nat_le a b then b else a

-- what is given for some steps in order from this number on, each by its number and the OUTPUT statements before it,
-- after these OUTPUT statements, these events and this status; the greatest status decides
abbrev pub in_order : {A : Type 0} → (ℕ → List AskedView → A → Output) → (A → List AskedView) → ℕ → List AskedView
    → List Event → ℕ → List A → Output
in_order give asks number earlier events status [] = record { events = events; status = status }
in_order give asks number earlier events status (step ∷ steps) =
    let given = give number earlier step in
    in_order give asks (number + 1) (earlier ++ asks step) (events ++ given.events) (worse status given.status) steps

-- the same of steps whose designs are searched for
abbrev pub steps_output : ℕ → ℕ → List AskedView → List Event → ℕ → List Meaning → Output
steps_output seed = in_order (step_output seed) asked_of

-- what is given for a program, or for a text that has none
abbrev pub program_output : ℕ → Result (List Meaning) TextFault → Output
program_output seed (Ok steps) = steps_output seed 1 [] [] 0 steps
program_output seed (Err fault) = message (fault_line fault) 3

-- how the steps of a program end
abbrev pub endings_of : List Meaning → List Ending
endings_of steps = map (λ (step : Meaning). (outcome_of step).ending) steps

-- what is given for `large` and its program: the summary, and the status of a run with the seed 0
abbrev pub large_output : Result (List Meaning) TextFault → Output
large_output (Ok steps) = message (summary_lines (endings_of steps)) (program_output 0 (Ok steps)).status
large_output (Err fault) = program_output 0 (Err fault)

-- what is given for `check` and the book that a text is, or its first fault: what the book claims, where it is
-- accepted, or the line of the fault or of the first false entry
abbrev pub verdict_output : Result Book BookFault → Output
verdict_output (Ok book) =
    let verdict = verdict_of (flaw_of (claim_of book.head) book.marks) in
    message (verdict_lines book.head verdict) (verdict_status verdict)
verdict_output (Err fault) = message (book_fault_line fault) 1

-- what is given for `upgrade` and the book that a text is, or its first fault: the text that is written of the book
abbrev pub upgraded_output : Result Book BookFault → Output
upgraded_output (Ok book) = message (book_text book) 0
upgraded_output (Err fault) = message (book_fault_line fault) 1

-- what stands outside: the listing and the files
abbrev pub world : Option (List ℕ) → Option (List File) → World
world written files = record { written = written; files = files }

-- A status below 4 is the output's, and comes with all of its events done.
-- Whatever the status, what was done is a prefix of them.
pub record Gives (output : Output) (old new : World) (status : ℕ) : Type 0 where
  pub same : status < 4 → status ≡ output.status
  pub whole : status < 4 → Did old new (acts output.events)
  pub part : DidPart old new (acts output.events)

-- exactly these events were done by a call that has no listing: whatever was listed, it stays as it is
pub record Shelved (events : List Event) (old new : Option (List File)) : Type 0 where
  pub whatever : (written : Option (List ℕ)) → Did (world written old) (world written new) (acts events)

-- a prefix of their acts was done
pub record ShelvedPart (events : List Event) (old new : Option (List File)) : Type 0 where
  pub whatever : (written : Option (List ℕ)) → DidPart (world written old) (world written new) (acts events)

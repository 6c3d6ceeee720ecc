-- What is read from the lines of a book: its marks, or the first fault.
use Rattle.std.specs.Prelude.{ℕ, ◌≡◌, ◌==◌, ◌+◌, Bool, true, false, if◌then◌else◌, List, [], ◌∷◌, ◌++◌, length, codes}
use Rattle.std.specs.Prelude.{Result, Ok, Err}
use Rattle.std.specs.Str.{bytes_eq}
use Rattle.fx_designs.specs.Problems.{Dimensions}
use Rattle.fx_designs.specs.Nodes as nodes
use Rattle.fx_vectors.specs.Marks.{meaning_of}
use Rattle.fx_vectors.specs.declared.mark.Mark.{Mark}
use Rattle.fx_book.specs.declared.fault.FaultKind.{FaultKind}
use Rattle.fx_book.specs.declared.fault.FaultKind.TheVariants.{Unfinished, Trailing}
use Rattle.fx_book.specs.declared.fault.BookFault.{BookFault}
use Rattle.fx_book.specs.declared.fault.BookStop.{BookStop}
use Rattle.fx_book.specs.declared.fault.BookStop.TheVariants.{Fault, NoMemory}
use Rattle.fx_book.specs.declared.version.Version.{Version}
use Rattle.fx_book.specs.Faults.{fault}
use Rattle.fx_book.specs.Parts.{parts_of}
use Rattle.fx_book.specs.Entries.{entry_of}

-- a mark before others, or the fault in its line, or the first one after it
abbrev pub after_entry : ℕ → Result Mark FaultKind → Result (List nodes.Mark) BookFault
    → Result (List nodes.Mark) BookFault
after_entry line (Err kind) rest = Err (fault kind line)
after_entry line (Ok mark) (Ok marks) = Ok (meaning_of mark ∷ marks)
after_entry line (Ok mark) (Err stop) = Err stop

-- whether nothing is left
abbrev pub is_nothing : List (List ℕ) → Bool
is_nothing [] = true
is_nothing (line ∷ []) = length line == 0
is_nothing (line ∷ next ∷ lines) = false

-- The marks of lines up to `END`, where the first of them has this number. The last of the lines is what no byte 10
-- ends.
abbrev pub entries : Version → Dimensions → Bool → ℕ → List (List ℕ) → Result (List nodes.Mark) BookFault
entries version d beaten number [] = Err (fault Unfinished number)
entries version d beaten number (line ∷ []) = Err (fault Unfinished number)
entries version d beaten number (line ∷ next ∷ lines) =
    (if bytes_eq line (codes "END")
    then (if is_nothing (next ∷ lines) then Ok [] else Err (fault Trailing (number + 1)))
    else after_entry number (entry_of version d beaten (parts_of line))
    (entries version d beaten (number + 1) (next ∷ lines)))

-- these marks before those that are read
abbrev pub onto : List nodes.Mark → Result (List nodes.Mark) BookFault → Result (List nodes.Mark) BookFault
onto marks (Ok more) = Ok (marks ++ more)
onto marks (Err stop) = Err stop

-- just what is read, unless memory ran out
abbrev pub IsReading : {T : Type 0} → Result T BookFault → Result T BookStop → Type 0
IsReading read (Ok value) = read ≡ Ok value
IsReading read (Err (Fault stop)) = read ≡ Err stop
IsReading read (Err NoMemory) = Unit {0}

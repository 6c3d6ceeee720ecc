-- What is given for a table: the files of its books, and its lines as texts.
use Rattle.std.proofs.Common.{arith}
use Rattle.std.specs.Prelude.{ℕ, ◌≡◌, ◌==◌, ◌≤◌, ◌+◌, ◌^◌, if◌then◌else◌, List, [], ◌∷◌, ◌++◌, None, refl, codes}
use Rattle.std.specs.Prelude.{decimal}
use Rattle.fx_base.specs.Acts.{Event, Piece, WholeFile}
use Rattle.fx_table_book.specs.declared.base.Base.{Base}
use Rattle.fx_table_book.specs.declared.order.Order.{Order}
use Rattle.fx_table_book.specs.declared.book.TableBook.{TableBook}
use Rattle.fx_table_book.specs.Texts.{book_text}
use Rattle.fx_table_lines.specs.declared.line.TableLine.{TableLine}
use Rattle.fx_table_lines.specs.declared.line.TableLine.TheVariants.{Least, Nothing, Open}
use Rattle.fx_program.specs.Output.{Output, with_files, worse}
use Rattle.fx_program.specs.declared.table_words.AskedTable.{AskedTable}
use Rattle.fx_program.specs.TableWords.{IsAsked, first_line}
use Rattle.fx_table_lines.specs.Listing.{head_text, line_text, order_text}
use Rattle.fx_program.specs.Tables.{IsLine, IsTable, base_at}

abbrev pub whole_name : Base → List ℕ
whole_name base = codes "-whole-" ++ (decimal (base.q ^ base.h) ++ (codes "-" ++ decimal base.w))

abbrev pub groups_name : Base → List ℕ
groups_name base =
    (if base.h == 0
    then []
    else (if base.w == 0 then codes "-blocks-" ++ decimal (base.q ^ base.h) else whole_name base))

-- the name of the file of a book
abbrev pub book_name : Base → Order → List ℕ
book_name base order =
    codes "table-"
    ++ (decimal base.q
    ++ (codes "-"
    ++ (decimal base.m
    ++ (codes "-"
    ++ (decimal base.n ++ (groups_name base ++ (order_text (codes "-") order ++ codes ".book")))))))

abbrev pub book_file : Base → Order → TableBook → Event
book_file base order book = WholeFile (book_name base order) (book_text book)

-- the file of the book of a line that is not open
abbrev pub files_of : Base → Order → TableLine → List Event
files_of base order (Least rows rules key book) = book_file base order book ∷ []
files_of base order (Nothing book) = book_file base order book ∷ []
files_of base order (Open entries rows) = []

-- the status of a line: 0 for a design, 1 for none, 2 where it is open
abbrev pub line_status : TableLine → ℕ
line_status (Least rows rules key book) = 0
line_status (Nothing book) = 1
line_status (Open entries rows) = 2

-- the book, and then the line
abbrev pub line_output : Base → Order → TableLine → Output
line_output base order line = with_files (files_of base order line) (line_text base order line) (line_status line)

-- a number of factors outside the base of which a table has a line
abbrev pub IsNumber : AskedTable → ℕ → Type 0
IsNumber asked n = IsAsked asked × ((first_line asked ≤ n) × (n ≤ asked.upto))

-- an output of a line for n factors outside the base whose claim holds
pub record IsGiven (asked : AskedTable) (n : ℕ) (given : Output) : Type 0 where
  pub line : TableLine
  pub holds : IsLine asked n line
  pub is : given ≡ line_output (base_at asked n) asked.order line

-- for each number there is one: the line that is open before anything is searched
abbrev pub open_given : (asked : AskedTable) (n : ℕ)
    → IsGiven asked n (line_output (base_at asked n) asked.order (Open 0 None))
open_given asked n =
    record { line = Open 0 None; holds = record { holds = omega arith; readable = tt }; is = refl }

-- the lines from n factors outside the base on, after these events and this status; the greatest status decides
abbrev pub lines_output : AskedTable → ℕ → List Event → ℕ → List TableLine → Output
lines_output asked n events status [] = record { events = events; status = status }
lines_output asked n events status (line ∷ lines) =
    let given = line_output (base_at asked n) asked.order line in
    lines_output asked (n + 1) (events ++ given.events) (worse status given.status) lines

-- the first line of a table
abbrev pub table_head : AskedTable → List ℕ
table_head asked = head_text (base_at asked asked.upto) asked.order

-- what is given for a table with these lines
abbrev pub table_output : AskedTable → List TableLine → Output
table_output asked lines = lines_output asked (first_line asked) (Piece (table_head asked) ∷ []) 0 lines

-- an output of a table: that of lines of which each holds
pub record IsOfTable (asked : AskedTable) (given : Output) : Type 0 where
  pub lines : List TableLine
  pub hold : IsTable asked lines
  pub is : given ≡ table_output asked lines

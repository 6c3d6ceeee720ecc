-- The texts of books of tables: a first line, one for the base, one for the order, one for the key to beat, one for
-- each entry, and `END`. Texts of the first version, whose lines 2 to 4 say a shape without block factors, the
-- resolution 3 and the pattern to beat, are read as well.
use Rattle.std.specs.Prelude.{ℕ, ◌≡◌, ◌==◌, ◌+◌, ◌-◌, ◌*◌, ◌^◌, ◌&&◌, ◌||◌, nat_lt, nat_le, Bool, if◌then◌else◌}
use Rattle.std.specs.Prelude.{List, [], ◌∷◌, ◌++◌, length, slice_index, drop, codes, Option, Some, None}
use Rattle.std.specs.Prelude.{Result, Ok, Err}
use Rattle.std.specs.List.{list_all}
use Rattle.std.specs.Str.{bytes_eq}
use Rattle.fx_book.specs.declared.fault.FaultKind.{FaultKind}
use Rattle.fx_book.specs.declared.fault.FaultKind.TheVariants.{TooLong, Title, Form, Range, Unfinished, Trailing}
use Rattle.fx_book.specs.declared.fault.BookFault.{BookFault}
use Rattle.fx_book.specs.declared.fault.BookStop.{BookStop}
use Rattle.fx_book.specs.declared.fault.BookStop.TheVariants.{Fault, NoMemory}
use Rattle.fx_book.specs.declared.version.Version.TheVariants.{Second}
use Rattle.fx_book.specs.Faults.{fault}
use Rattle.fx_book.specs.Parts.{lines_of, parts_of, number_of, numbers_of_parts}
use Rattle.fx_book.specs.Reading.{is_nothing}
use Rattle.fx_book.specs.Heads.{with_line, is_shape}
use Rattle.fx_book.specs.Writing.{line_text}
use Rattle.fx_strata.specs.Stages.{is_proper}
use Rattle.fx_strata.specs.Books as books
use Rattle.fx_table_book.specs.declared.base.Base.{Base}
use Rattle.fx_table_book.specs.declared.order.Order.{Order}
use Rattle.fx_table_book.specs.declared.order.Order.TheVariants.{FactorsFirst, ChengWuFirst, ChengWuSecond}
use Rattle.fx_table_book.specs.declared.order.Order.TheVariants.{SitterChenFeder, MostClear}
use Rattle.fx_table_book.specs.declared.book.Entry.{Entry}
use Rattle.fx_table_book.specs.declared.book.TableBook.{TableBook}
use Rattle.fx_table_book.specs.Tables.{strata_of, order_of, entries_of}
use Rattle.fx_table_book.specs.Tables as tables

-- what the text of a book says
pub record Contents : Type 0 where
  pub base : Base
  pub order : Order
  pub key : Option (List ℕ)
  pub entries : List books.Entry

abbrev pub contents : TableBook → Contents
contents book =
    record { base = book.base; order = book.order; key = book.key; entries = entries_of book.entries }

abbrev pub base_text : Base → List ℕ
base_text base = line_text (codes "base") (base.q ∷ base.m ∷ base.h ∷ base.w ∷ base.n ∷ [])

abbrev pub name_of : Order → List ℕ
name_of FactorsFirst = codes "FF"
name_of ChengWuFirst = codes "W1"
name_of ChengWuSecond = codes "W2"
name_of SitterChenFeder = codes "SCF"
name_of MostClear = codes "CLEAR"

abbrev pub order_text : Order → List ℕ
order_text order = codes "order " ++ (name_of order ++ codes "\n")

abbrev pub key_text : Option (List ℕ) → List ℕ
key_text None = codes "key none\n"
key_text (Some key) = line_text (codes "key") key

-- the line of an entry
abbrev pub entry_text : books.Entry → List ℕ
entry_text (books.Branch row) = line_text (codes "O") (row ∷ [])
entry_text (books.Worse row) = line_text (codes "P") (row ∷ [])
entry_text (books.Image row change) = line_text (codes "I") (row ∷ change)
entry_text (books.NoRoom row) = line_text (codes "R") (row ∷ [])
entry_text (books.Floor row) = line_text (codes "F") (row ∷ [])

abbrev pub entries_text : List books.Entry → List ℕ
entries_text [] = []
entries_text (entry ∷ entries) = entry_text entry ++ entries_text entries

abbrev pub text_of : Contents → List ℕ
text_of x =
    codes "factex-table 2\n"
    ++ (base_text x.base
    ++ (order_text x.order ++ (key_text x.key ++ (entries_text x.entries ++ codes "END\n"))))

-- the text that is written of a book
abbrev pub book_text : TableBook → List ℕ
book_text book = text_of (contents book)

-- the text of the first version that a book without blocks had
abbrev pub pattern_text : Option (List ℕ) → List ℕ
pattern_text None = codes "pattern none\n"
pattern_text (Some key) = line_text (codes "pattern") (0 ∷ 0 ∷ key)

abbrev pub first_text : Contents → List ℕ
first_text x =
    codes "factex-table 1\n"
    ++ (line_text (codes "size") (x.base.q ∷ x.base.m ∷ x.base.n ∷ 0 ∷ [])
    ++ (codes "resolution 3\n" ++ (pattern_text x.key ++ (entries_text x.entries ++ codes "END\n"))))

-- without blocks, under the order of the constant words
pub record IsFirst (x : Contents) : Type 0 where
  pub no_blocks : x.base.h ≡ 0
  pub no_whole_plots : x.base.w ≡ 0
  pub order : x.order ≡ FactorsFirst

-- within the limits, and proper
abbrev pub is_base : Base → Bool
is_base base =
    is_shape Second base.q base.m (base.w + base.n) 0
    && (nat_le (base.q ^ (base.w + base.n)) (2 ^ 120)
    && (is_proper (strata_of base) && ((base.w == 0) || nat_lt 0 base.h)))

-- just so many numbers
abbrev pub counted : ℕ → Option (List ℕ) → Option (List ℕ)
counted count None = None
counted count (Some numbers) = (if length numbers == count then Some numbers else None)

-- so many numbers that the parts write
abbrev pub some_numbers : ℕ → List (List ℕ) → Option (List ℕ)
some_numbers count parts = counted count (numbers_of_parts 0 (2 ^ 128) parts)

abbrev pub base_by : List ℕ → Base
base_by numbers =
    record {
      q = slice_index numbers 0;
      m = slice_index numbers 1;
      h = slice_index numbers 2;
      w = slice_index numbers 3;
      n = slice_index numbers 4;
    }

abbrev pub base_from : Option (List ℕ) → Result Base FaultKind
base_from None = Err Form
base_from (Some numbers) = (if is_base (base_by numbers) then Ok (base_by numbers) else Err Range)

-- the base of line 2
abbrev pub base_of : List (List ℕ) → Result Base FaultKind
base_of [] = Err Form
base_of (word ∷ parts) = (if bytes_eq word (codes "base") then base_from (some_numbers 5 parts) else Err Form)

-- the base of a shape, whose last number is that of its block factors
abbrev pub unblocked : List ℕ → Base
unblocked numbers =
    record { q = slice_index numbers 0; m = slice_index numbers 1; h = 0; w = 0; n = slice_index numbers 2 }

abbrev pub size_from : Option (List ℕ) → Result Base FaultKind
size_from None = Err Form
size_from (Some numbers) =
    (if (slice_index numbers 3 == 0) && is_base (unblocked numbers) then Ok (unblocked numbers) else Err Range)

-- the base of line 2 of the first version
abbrev pub size_of : List (List ℕ) → Result Base FaultKind
size_of [] = Err Form
size_of (word ∷ parts) = (if bytes_eq word (codes "size") then size_from (some_numbers 4 parts) else Err Form)

abbrev pub order_by : List ℕ → Result Order FaultKind
order_by name =
    (if bytes_eq name (codes "FF")
    then Ok FactorsFirst
    else (if bytes_eq name (codes "W1")
    then Ok ChengWuFirst
    else (if bytes_eq name (codes "W2")
    then Ok ChengWuSecond
    else (if bytes_eq name (codes "SCF")
    then Ok SitterChenFeder
    else (if bytes_eq name (codes "CLEAR") then Ok MostClear else Err Range)))))

-- the order of line 3
abbrev pub order_from : List (List ℕ) → Result Order FaultKind
order_from [] = Err Form
order_from (word ∷ []) = Err Form
order_from (word ∷ name ∷ []) = (if bytes_eq word (codes "order") then order_by name else Err Form)
order_from (word ∷ name ∷ other ∷ others) = Err Form

-- whether an entry of a key is below 2^127 where a word and its multiples count each
abbrev pub is_count : ℕ → ℕ → Bool
is_count q a = nat_lt ((q - 1) * a) (2 ^ 127)

abbrev pub key_within : ℕ → Option (List ℕ) → Result (Option (List ℕ)) FaultKind
key_within q None = Err Form
key_within q (Some key) = (if list_all (is_count q) key then Ok (Some key) else Err Range)

abbrev pub key_from : ℕ → ℕ → List (List ℕ) → Result (Option (List ℕ)) FaultKind
key_from q count [] = Err Form
key_from q count (word ∷ parts) =
    (if bytes_eq word (codes "key") then key_within q (some_numbers count parts) else Err Form)

-- the key of line 4, under an order of so many entries
abbrev pub key_of : ℕ → ℕ → List ℕ → Result (Option (List ℕ)) FaultKind
key_of q count line = (if bytes_eq line (codes "key none") then Ok None else key_from q count (parts_of line))

-- the key of a pattern without words of one factor and of two
abbrev pub pattern_within : ℕ → Option (List ℕ) → Result (Option (List ℕ)) FaultKind
pattern_within q None = Err Form
pattern_within q (Some pattern) =
    (if (slice_index pattern 0 == 0) && (slice_index pattern 1 == 0)
    then key_within q (Some (drop 2 pattern))
    else Err Range)

abbrev pub pattern_from : ℕ → ℕ → List (List ℕ) → Result (Option (List ℕ)) FaultKind
pattern_from q count [] = Err Form
pattern_from q count (word ∷ parts) =
    (if bytes_eq word (codes "pattern") then pattern_within q (some_numbers (count + 2) parts) else Err Form)

-- the key of line 4 of the first version
abbrev pub pattern_of : ℕ → ℕ → List ℕ → Result (Option (List ℕ)) FaultKind
pattern_of q count line =
    (if bytes_eq line (codes "pattern none") then Ok None else pattern_from q count (parts_of line))

-- a row below the number of runs
abbrev pub row_within : ℕ → Option ℕ → Result ℕ FaultKind
row_within runs None = Err Form
row_within runs (Some row) = (if nat_lt row runs then Ok row else Err Range)

-- the row that is the only part
abbrev pub row_of : ℕ → List (List ℕ) → Result ℕ FaultKind
row_of runs [] = Err Form
row_of runs (row ∷ []) = row_within runs (number_of row)
row_of runs (row ∷ other ∷ others) = Err Form

-- an entry of a row alone
abbrev pub of_row : (ℕ → books.Entry) → Result ℕ FaultKind → Result books.Entry FaultKind
of_row entry (Err kind) = Err kind
of_row entry (Ok row) = Ok (entry row)

-- an image, if its row and the numbers of its change are below the number of runs
abbrev pub image_from : ℕ → Option ℕ → Option (List ℕ) → Result books.Entry FaultKind
image_from runs None change = Err Form
image_from runs (Some row) None = Err Form
image_from runs (Some row) (Some change) =
    (if nat_lt row runs && list_all (λ a. nat_lt a runs) change then Ok (books.Image row change) else Err Range)

-- the image that parts write: a row and m numbers
abbrev pub image_of : Base → List (List ℕ) → Result books.Entry FaultKind
image_of base [] = Err Form
image_of base (row ∷ parts) = image_from (base.q ^ base.m) (number_of row) (some_numbers base.m parts)

-- The entry of a line's parts, or whether its form or the range of a number is wrong. Those of words, which other books
-- have, are out of range here.
abbrev pub entry_of : Base → List (List ℕ) → Result books.Entry FaultKind
entry_of base [] = Err Form
entry_of base (letter ∷ parts) =
    (if bytes_eq letter (codes "O")
    then of_row books.Branch (row_of (base.q ^ base.m) parts)
    else (if bytes_eq letter (codes "P")
    then of_row books.Worse (row_of (base.q ^ base.m) parts)
    else (if bytes_eq letter (codes "I")
    then image_of base parts
    else (if bytes_eq letter (codes "R")
    then of_row books.NoRoom (row_of (base.q ^ base.m) parts)
    else (if bytes_eq letter (codes "F")
    then of_row books.Floor (row_of (base.q ^ base.m) parts)
    else (if bytes_eq letter (codes "W") then Err Range else Err Form))))))

-- an entry before others, or the fault in its line, or the first one after it
abbrev pub after_entry : ℕ → Result books.Entry FaultKind → Result (List books.Entry) BookFault
    → Result (List books.Entry) BookFault
after_entry line (Err kind) rest = Err (fault kind line)
after_entry line (Ok entry) (Ok entries) = Ok (entry ∷ entries)
after_entry line (Ok entry) (Err stop) = Err stop

-- The entries of lines up to `END`, where the first of them has this number. The last of the lines is what no byte 10
-- ends.
abbrev pub entries : Base → ℕ → List (List ℕ) → Result (List books.Entry) BookFault
entries base number [] = Err (fault Unfinished number)
entries base number (line ∷ []) = Err (fault Unfinished number)
entries base number (line ∷ next ∷ lines) =
    (if bytes_eq line (codes "END")
    then (if is_nothing (next ∷ lines) then Ok [] else Err (fault Trailing (number + 1)))
    else after_entry number (entry_of base (parts_of line)) (entries base (number + 1) (next ∷ lines)))

abbrev pub with_entries : Base → Order → Option (List ℕ) → Result (List books.Entry) BookFault
    → Result Contents BookFault
with_entries base order key (Err stop) = Err stop
with_entries base order key (Ok entries) = Ok (record { base = base; order = order; key = key; entries = entries })

abbrev pub with_key : Base → Order → List (List ℕ) → Result (Option (List ℕ)) FaultKind → Result Contents BookFault
with_key base order lines (Err kind) = Err (fault kind 4)
with_key base order lines (Ok key) = with_entries base order key (entries base 5 lines)

abbrev pub from_key : Base → Order → List (List ℕ) → Result Contents BookFault
from_key base order lines =
    with_line (Err (fault Unfinished 4))
    (λ line rest. with_key base order rest (key_of base.q (length (order_of order (strata_of base))) line)) lines

abbrev pub with_order : Base → List (List ℕ) → Result Order FaultKind → Result Contents BookFault
with_order base lines (Err kind) = Err (fault kind 3)
with_order base lines (Ok order) = from_key base order lines

abbrev pub from_order : Base → List (List ℕ) → Result Contents BookFault
from_order base lines =
    with_line (Err (fault Unfinished 3)) (λ line rest. with_order base rest (order_from (parts_of line))) lines

abbrev pub with_base : List (List ℕ) → Result Base FaultKind → Result Contents BookFault
with_base lines (Err kind) = Err (fault kind 2)
with_base lines (Ok base) = from_order base lines

abbrev pub from_base : List (List ℕ) → Result Contents BookFault
from_base lines =
    with_line (Err (fault Unfinished 2)) (λ line rest. with_base rest (base_of (parts_of line))) lines

abbrev pub from_pattern : Base → List (List ℕ) → Result Contents BookFault
from_pattern base lines =
    with_line (Err (fault Unfinished 4))
    (λ line rest.
    with_key base FactorsFirst rest (pattern_of base.q (length (order_of FactorsFirst (strata_of base))) line)) lines

abbrev pub from_demands : Base → List (List ℕ) → Result Contents BookFault
from_demands base lines =
    with_line (Err (fault Unfinished 3))
    (λ line rest. if bytes_eq line (codes "resolution 3") then from_pattern base rest else Err (fault Range 3)) lines

abbrev pub with_size : List (List ℕ) → Result Base FaultKind → Result Contents BookFault
with_size lines (Err kind) = Err (fault kind 2)
with_size lines (Ok base) = from_demands base lines

-- what lines of the first version say
abbrev pub from_size : List (List ℕ) → Result Contents BookFault
from_size lines =
    with_line (Err (fault Unfinished 2)) (λ line rest. with_size rest (size_of (parts_of line))) lines

abbrev pub by_title : List ℕ → List (List ℕ) → Result Contents BookFault
by_title line rest =
    (if bytes_eq line (codes "factex-table 2")
    then from_base rest
    else (if bytes_eq line (codes "factex-table 1") then from_size rest else Err (fault Title 1)))

abbrev pub from_title : List (List ℕ) → Result Contents BookFault
from_title lines = with_line (Err (fault Title 1)) by_title lines

-- what the text of a book says, or its first fault
unfoldable pub book_of : List ℕ → Result Contents BookFault
book_of text = (if nat_lt 33554432 (length text) then Err (fault TooLong 1) else from_title (lines_of text))

-- just what is read, unless memory ran out
abbrev pub IsBookReading : Result Contents BookFault → Result TableBook BookStop → Type 0
IsBookReading read (Ok book) = read ≡ Ok (contents book)
IsBookReading read (Err (Fault stop)) = read ≡ Err stop
IsBookReading read (Err NoMemory) = Unit {0}

abbrev pub IsEntriesReading : Result (List books.Entry) BookFault → Result (List Entry) BookStop → Type 0
IsEntriesReading read (Ok entries) = read ≡ Ok (entries_of entries)
IsEntriesReading read (Err (Fault stop)) = read ≡ Err stop
IsEntriesReading read (Err NoMemory) = Unit {0}

-- what an entry that was read means
abbrev pub read_as : Result Entry FaultKind → Result books.Entry FaultKind
read_as (Err kind) = Err kind
read_as (Ok entry) = Ok (tables.entry_of entry)

-- what is read in a line, or the fault in it
abbrev pub at_line : {T : Type 0} → ℕ → Result T FaultKind → Result T BookFault
at_line line (Err kind) = Err (fault kind line)
at_line line (Ok value) = Ok value

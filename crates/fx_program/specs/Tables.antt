-- A table: the lines of more and more factors outside the base, up to the first without a design.
use Rattle.std.specs.Prelude.{ℕ, ◌≡◌, ◌≤◌, ◌+◌, ◌-◌, Bool, true, false, List, [], ◌∷◌, length}
use Rattle.fx_catalogue.specs.Catalogues.{up_to}
use Rattle.fx_table_book.specs.declared.base.Base.{Base}
use Rattle.fx_table_book.specs.declared.book.TableBook.{TableBook}
use Rattle.fx_strata.specs.Designs.{IsStratified}
use Rattle.fx_table_book.specs.Tables.{strata_of}
use Rattle.fx_table_book.specs.Texts.{book_text}
use Rattle.fx_table_lines.specs.Lines.{Holds}
use Rattle.fx_table_lines.specs.declared.line.TableLine.{TableLine}
use Rattle.fx_table_lines.specs.declared.line.TableLine.TheVariants.{Least, Nothing, Open}
use Rattle.fx_program.specs.declared.table_words.AskedTable.{AskedTable}
use Rattle.fx_program.specs.TableWords.{first_line}

-- designs with n factors outside the base
abbrev pub base_at : AskedTable → ℕ → Base
base_at asked n = record { q = asked.q; m = asked.m; h = asked.h; w = asked.inside; n = n }

-- whether there is no design with so many factors
abbrev pub is_nothing : TableLine → Bool
is_nothing (Least rows rules key book) = false
is_nothing (Nothing book) = true
is_nothing (Open entries rows) = false

-- the text of a book is none that is too long to be read
abbrev pub IsShort : TableBook → Type 0
IsShort book = length (book_text book) ≤ 33554432

-- the book of a line can be read: where its text would be too long, the line is open
abbrev pub IsReadable : TableLine → Type 0
IsReadable (Least rows rules key book) = IsShort book
IsReadable (Nothing book) = IsShort book
IsReadable (Open entries rows) = Unit {0}

-- what the line for n factors outside the base claims holds, and its book can be read
pub record IsLine (asked : AskedTable) (n : ℕ) (line : TableLine) : Type 0 where
  pub holds : Holds (base_at asked n) asked.order asked.entries line
  pub readable : IsReadable line

-- so it is with each of the lines: with the first for n factors, with the next for one more, and so on
abbrev pub AllHold : AskedTable → ℕ → List TableLine → Type 0
AllHold asked n [] = Unit {0}
AllHold asked n (line ∷ lines) = IsLine asked n line × AllHold asked (n + 1) lines

-- Lines from the first on that a table can have, each within the budget of entries, and what each claims holds of all
-- designs in blocks or split plots. The first without a design is the last.
pub record IsTable (asked : AskedTable) (lines : List TableLine) : Type 0 where
  pub all : List TableLine
  pub count : length all ≡ asked.upto + 1 - first_line asked
  pub hold : AllHold asked (first_line asked) all
  pub listed : lines ≡ up_to is_nothing all

-- there is no design with n factors outside the base
abbrev pub HasNone : AskedTable → ℕ → Type 0
HasNone asked n = (blocks factors : List (List ℕ)) → IsStratified (strata_of (base_at asked n)) blocks factors → ⊥

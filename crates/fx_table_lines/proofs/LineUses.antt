-- What the claims of lines give: a claim that is weakened does not.
use Rattle.std.specs.Prelude.{ℕ, ◌≡◌, ◌≤◌, true, List, length, Option, None}
use Rattle.fx_vectors.specs.Matrix.{MatrixView}
use Rattle.fx_strata.specs.Designs.{IsLeast, IsStratified, key_of}
use Rattle.fx_strata.specs.Canonical.{figures}
use Rattle.fx_strata.specs.Stages.{is_design}
use Rattle.fx_tree.specs.Introduced.{introduced}
use Rattle.fx_table_book.specs.declared.base.Base.{Base}
use Rattle.fx_table_book.specs.declared.order.Order.{Order}
use Rattle.fx_table_book.specs.declared.book.TableBook.{TableBook}
use Rattle.fx_table_book.specs.Tables.{claim_of, entries_of, multiplied, order_of, strata_of}
use Rattle.fx_table_check.specs.declared.reason.Verdict.TheVariants.{Accepted}
use Rattle.fx_table_check.specs.Checking.{flaw_of, verdict_of}
use Rattle.fx_table_rules.specs.Rules.{block_rows, factor_rows}
use Rattle.fx_table_lines.specs.declared.line.TableLine.TheVariants.{Nothing}
use Rattle.fx_table_lines.specs.Lines.{Holds, IsAccepted, IsLeastLine}

-- the key of a line is that of its rows, which are those of a canonical design
key_of_line : (base : Base) (order : Order) (rows : List ℕ) (rules : MatrixView) (key : List ℕ) (book : TableBook)
    → IsLeastLine base order rows rules key book
    → (is_design (strata_of base) rows ≡ true)
    × (multiplied base.q key ≡ key_of (order_of order (strata_of base)) (figures (strata_of base) rows))
key_of_line base order rows rules key book line = (line.canonical, line.key_is)

-- its rules are over all run indexes, and no design has a less key than theirs
rules_of_line : (base : Base) (order : Order) (rows : List ℕ) (rules : MatrixView) (key : List ℕ) (book : TableBook)
    → IsLeastLine base order rows rules key book
    → (introduced base.q 0 rules.rows ≡ base.m)
    × IsLeast (strata_of base) (order_of order (strata_of base)) (block_rows (strata_of base) rules.rows)
    (factor_rows (strata_of base) rules.rows)
rules_of_line base order rows rules key book line = (line.printed.indexes, line.least)

-- a book of a line is of its dimensions, its order and its key, and is accepted
book_of_line : (base : Base) (order : Order) (key : Option (List ℕ)) (book : TableBook) → IsAccepted base order key book
    → (book.base ≡ base) × (book.order ≡ order) × (book.key ≡ key)
    × (verdict_of (flaw_of (claim_of book) (entries_of book.entries)) ≡ Accepted)
book_of_line base order key book is = (is.base_is, is.order_is, is.key_is, is.accepted)

-- a line without a design: there is none, and the book that proves it is of this line, within the budget
line_of_none : (base : Base) (order : Order) (budget : ℕ) (book : TableBook) → Holds base order budget (Nothing book)
    → ((blocks factors : List (List ℕ)) → IsStratified (strata_of base) blocks factors → ⊥)
    × IsAccepted base order None book × (length book.entries ≤ budget)
line_of_none base order budget book line = (let absent = line.0 in (absent.none, absent.proved, line.1))

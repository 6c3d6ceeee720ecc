-- The lines of tables, and what they claim of all designs in blocks, and of all split plots.
use Rattle.std.specs.Prelude.{ℕ, ◌≡◌, ◌≤◌, true, List, length, Option, Some, None}
use Rattle.fx_strata.specs.Designs.{IsStratified, IsLeast, key_of}
use Rattle.fx_strata.specs.Canonical.{figures}
use Rattle.fx_strata.specs.Stages.{is_design}
use Rattle.fx_tree.specs.Introduced.{introduced}
use Rattle.fx_rules.specs.Laws.{IsGiven}
use Rattle.fx_vectors.specs.Matrix.{MatrixView}
use Rattle.fx_table_book.specs.declared.base.Base.{Base}
use Rattle.fx_table_book.specs.declared.order.Order.{Order}
use Rattle.fx_table_book.specs.declared.book.TableBook.{TableBook}
use Rattle.fx_table_book.specs.Tables.{IsBook, claim_of, entries_of, multiplied, order_of, strata_of}
use Rattle.fx_table_check.specs.declared.reason.Verdict.TheVariants.{Accepted}
use Rattle.fx_table_check.specs.Checking.{flaw_of, verdict_of}
use Rattle.fx_table_rules.specs.Rules.{AreRulesOf, block_rows, factor_rows, rule_shape}
use Rattle.fx_table_lines.specs.declared.line.TableLine.{TableLine}
use Rattle.fx_table_lines.specs.declared.line.TableLine.TheVariants.{Least, Nothing, Open}

-- a valid book of these dimensions, this order and this key, that the checker accepts
pub record IsAccepted (base : Base) (order : Order) (key : Option (List ℕ)) (book : TableBook) : Type 0 where
  pub base_is : book.base ≡ base
  pub order_is : book.order ≡ order
  pub key_is : book.key ≡ key
  pub valid : IsBook book
  pub accepted : verdict_of (flaw_of (claim_of book) (entries_of book.entries)) ≡ Accepted

-- rules that can be printed, over all run indexes, of the canonical design with these rows
pub record ArePrinted (base : Base) (rows : List ℕ) (rules : MatrixView) : Type 0 where
  pub shape : rules.shape ≡ rule_shape base
  pub given : IsGiven rules.shape rules.rows
  pub indexes : introduced base.q 0 rules.rows ≡ base.m
  pub are : AreRulesOf (strata_of base) rows rules.rows

-- rows of a canonical design, with its key; of all designs of these dimensions none has a less one, so that the rules
-- give a design of least key; and the book that proves it
pub record IsLeastLine (base : Base) (order : Order) (rows : List ℕ) (rules : MatrixView) (key : List ℕ)
    (book : TableBook) : Type 0 where
  pub canonical : is_design (strata_of base) rows ≡ true
  pub key_is : multiplied base.q key ≡ key_of (order_of order (strata_of base)) (figures (strata_of base) rows)
  pub printed : ArePrinted base rows rules
  pub least : IsLeast (strata_of base) (order_of order (strata_of base)) (block_rows (strata_of base) rules.rows)
      (factor_rows (strata_of base) rules.rows)
  pub proved : IsAccepted base order (Some key) book

-- there is no design of these dimensions, and the book that proves it
pub record IsAbsent (base : Base) (order : Order) (book : TableBook) : Type 0 where
  pub none : (blocks factors : List (List ℕ)) → IsStratified (strata_of base) blocks factors → ⊥
  pub proved : IsAccepted base order None book

-- what a line claims, within a budget of entries
abbrev pub Holds : Base → Order → ℕ → TableLine → Type 0
Holds base order budget (Least rows rules key book) =
    IsLeastLine base order rows.items rules key book × (length book.entries ≤ budget)
Holds base order budget (Nothing book) = IsAbsent base order book × (length book.entries ≤ budget)
Holds base order budget (Open entries rows) = entries ≤ budget

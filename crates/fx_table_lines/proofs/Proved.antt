-- What an accepted book proves of the rows of a line.
use Rattle.std.proofs.Common.{ℕ, ◌≡◌, List, Some, sym, refl, ◌∙◌}
use Rattle.fx_table_book.specs.declared.base.Base.{Base}
use Rattle.fx_table_book.specs.declared.book.TableBook.{TableBook}
use Rattle.fx_table_book.specs.declared.book.Entry.{Entry}
use Rattle.fx_table_book.specs.declared.order.Order.{Order}
use Rattle.fx_table_book.specs.Tables.{IsBook, claim_of, entries_of, order_of, strata_of}
use Rattle.fx_table_check.specs.declared.reason.Verdict.{Verdict}
use Rattle.fx_table_check.specs.declared.reason.Verdict.TheVariants.{Accepted}
use Rattle.fx_table_check.specs.Checking.{flaw_of, verdict_of}
use Rattle.fx_table_check.specs.Keys.{IsKeyOf, IsLeastOf}
use Rattle.fx_table_check.proofs.Good.{accepted-none, good}
use Rattle.fx_table_lines.specs.Lines.{ArePrinted, IsLeastLine}
use Rattle.fx_designs.specs.Galois.{IsField}
use Rattle.fx_vectors.specs.Matrix.{MatrixView}
use Rattle.fx_table_rules.proofs.Ruled.{rules_are_least}

abbrev pub book_of : Base → Order → List ℕ → List Entry → TableBook
book_of base order key entries = record { base = base; order = order; key = Some key; entries = entries }

pub least_line : (base : Base) (f : IsField base.q) (order : Order) (rows : List ℕ) (rules : MatrixView)
    (key : List ℕ) (entries : List Entry) (verdict : Verdict)
    → ArePrinted base rows rules
    → IsKeyOf (strata_of base) (order_of order (strata_of base)) rows (Some key)
    → IsLeastOf (strata_of base) (order_of order (strata_of base)) rows (Some key)
    → IsBook (book_of base order key entries)
    → verdict ≡ verdict_of (flaw_of (claim_of (book_of base order key entries)) (entries_of entries))
    → verdict ≡ Accepted
    → IsLeastLine base order rows rules key (book_of base order key entries)
least_line base f order rows rules key entries verdict printed is least valid judged ok =
    let accepted : verdict_of (flaw_of (claim_of (book_of base order key entries)) (entries_of entries)) ≡ Accepted =
    sym judged ∙ ok in
    record {
      canonical = is.0;
      key_is = is.1;
      printed = printed;
      least = rules_are_least (strata_of base) (order_of order (strata_of base)) f rows rules.rows
          (least (entries_of entries)
          (good (claim_of (book_of base order key entries)) (entries_of entries) (accepted-none _ accepted)))
          printed.are;
      proved = record { base_is = refl; order_is = refl; key_is = refl; valid = valid; accepted = accepted };
    }

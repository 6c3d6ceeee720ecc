-- A book that `check` accepts proves its claim, since what is read as a book is valid.
use Rattle.std.proofs.Common.{ℕ, ◌≡◌, Bool, true, false, cond, List, Option, Some, None, Result, Ok, Err, refl, arith}
use Rattle.std.proofs.Common.{inl, inr}
use Rattle.fx_vectors.specs.declared.book.Book.{Book}
use Rattle.fx_book.specs.declared.fault.BookFault.{BookFault}
use Rattle.fx_book.specs.Heads.{book_of}
use Rattle.fx_book.proofs.ValidTexts.{read_is_valid}
use Rattle.fx_checker.specs.Books.{Flaw, flaw_of}
use Rattle.fx_checker.specs.Claims.{claim_of}
use Rattle.fx_checker.specs.Verdicts.{verdict_of}
use Rattle.fx_checker.proofs.Sound.{proved}
use Rattle.fx_table_book.specs.Texts as tables
use Rattle.fx_program.specs.Claims.{IsProved, IsProvedBook, IsProvedTable}
use Rattle.fx_program.specs.Commands.{checked_output, is_of_table}
use Rattle.fx_program.specs.TableVerdicts.{table_verdict}
use Rattle.fx_program.proofs.ProvedTables.{proved_table}
use Rattle.fx_program.specs.Output.{Output, verdict_output}
use Rattle.fx_program.specs.Verdicts.{verdict_status}

no_flaw : (found : Option Flaw) → verdict_status (verdict_of found) ≡ 0 → found ≡ None
no_flaw None accepted = refl
no_flaw (Some flaw) accepted = absurd (omega (arith, accepted))

by_read : (text : List ℕ) (read : Result Book BookFault) → book_of text ≡ read → (verdict_output read).status ≡ 0
    → IsProvedBook text
by_read text (Ok book) is accepted =
    record {
      book = book;
      read = is;
      claim = proved book.head.question (read_is_valid text book is).question book.head.beat book.marks
          (no_flaw (flaw_of (claim_of book.head) book.marks) accepted);
    }
by_read text (Err fault) is accepted = absurd (omega (arith, accepted))

proved_book : (text : List ℕ) → (verdict_output (book_of text)).status ≡ 0 → IsProvedBook text
proved_book text accepted = by_read text (book_of text) refl accepted

by_kind : (b : Bool) (text : List ℕ) (table book : Output) → (table.status ≡ 0 → IsProvedTable text)
    → (book.status ≡ 0 → IsProvedBook text)
    → (cond b table book).status ≡ 0
    → IsProved text
by_kind true text table book of_table of_book accepted = inr (of_table accepted)
by_kind false text table book of_table of_book accepted = inl (of_book accepted)

pub proved_text : (text : List ℕ) → (checked_output text).status ≡ 0 → IsProved text
proved_text text =
    by_kind (is_of_table text) text (table_verdict (tables.book_of text)) (verdict_output (book_of text))
    (proved_table text) (proved_book text)

use Rattle.std.proofs.Common.{◌≡◌, ◌≤◌, ℕ, List, Result, Ok, Err, length, sym, ap, refl, arith}
use Rattle.std.proofs.Common.{append-nil}
use Rattle.fx_base.specs.Acts.{pieces}
use Rattle.fx_vectors.specs.declared.book.Book.{Book}
use Rattle.fx_book.specs.declared.fault.BookFault.{BookFault}
use Rattle.fx_book.specs.Heads.{book_of}
use Rattle.fx_book.proofs.Whole.{book_back}
use Rattle.fx_book.proofs.ValidTexts.{read_is_valid}
use Rattle.fx_program.specs.CommandLine.{settings_of}
use Rattle.fx_program.specs.Commands.{checked_output}
use Rattle.fx_program_laws.proofs.BookKinds.{checked_marks, checked_read}
use Rattle.fx_program.specs.Output.{Output, message, upgraded_output}
use Rattle.fx_program_laws.proofs.laws.upgraded_books_have_the_same_verdict.Goals as goal

same_piece : (a b : List ℕ) → message a 0 ≡ message b 0 → a ≡ b
same_piece a b e =
    cc (append-nil a, (ap (λ (o : Output). pieces o.events) e), append-nil b)

by_read : (text upgraded : List ℕ) (read : Result Book BookFault) → book_of text ≡ read
    → upgraded_output read ≡ message upgraded 0 → length upgraded ≤ 268435456
    → checked_output text ≡ checked_output upgraded
by_read text upgraded (Ok book) is e few =
    let same = same_piece _ upgraded e in
    cc (checked_read text book is, book_back book (read_is_valid text book is) (rw (← same) at few), checked_marks book)
by_read text upgraded (Err fault) is e few =
    let low = ap (λ (o : Output). o.status) e in absurd (omega (arith, low))

pub returns-clause-rewritten : goal.returns-clause-rewritten
unfolding settings_of
returns-clause-rewritten c = λ text book is. cc

pub returns-clause-same : goal.returns-clause-same
unfolding settings_of
returns-clause-same c = λ text upgraded given e few checked.
    cc (by_read text upgraded _ refl (sym e) few)

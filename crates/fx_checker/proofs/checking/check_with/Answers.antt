use Rattle.std.proofs.Common.{◌≡◌, Option, Some, None, refl}
use Rattle.fx_vectors.specs.declared.book.Book.{Book}
use Rattle.fx_book.specs.Valid.{IsValidBook}
use Rattle.fx_checker.specs.Books.{Flaw, flaw_of}
use Rattle.fx_checker.specs.Claims.{claim_of}
use Rattle.fx_checker.specs.Laws.{IsProved}
use Rattle.fx_checker.specs.Verdicts.{verdict_of}
use Rattle.fx_checker.proofs.Sound.{proved}
use Rattle.fx_checker.proofs.checking.check_with.Goals as goal

proved_where_accepted : (book : Book) → IsValidBook book → (found : Option Flaw)
    → flaw_of (claim_of book.head) book.marks ≡ found → IsProved (claim_of book.head) (verdict_of found)
proved_where_accepted book valid None none = proved book.head.question valid.question book.head.beat book.marks none
proved_where_accepted book valid (Some x) some = tt

pub returns-clause-claim : goal.returns-clause-claim
returns-clause-claim g c =
    rw (c.judge_marks.ensures, c.in_ok-walk.ensures.at.book_is)
    (proved_where_accepted c.args.book.now c.requires.valid _ refl)

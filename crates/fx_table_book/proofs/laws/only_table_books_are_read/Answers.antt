use Rattle.fx_table_book.proofs.Whole.{book_accepted}
use Rattle.fx_table_book.proofs.laws.only_table_books_are_read.Goals as goal

pub returns : goal.returns
returns c = λ text book read. (book_accepted text book read).written

use Rattle.fx_table_book.proofs.Whole.{book_accepted}
use Rattle.fx_table_book.proofs.laws.read_table_books_are_valid.Goals as goal

pub returns : goal.returns
returns c = λ text book read. (book_accepted text book read).valid

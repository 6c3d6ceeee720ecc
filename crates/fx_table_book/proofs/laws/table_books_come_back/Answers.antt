use Rattle.fx_table_book.proofs.Back.{book_back}
use Rattle.fx_table_book.proofs.laws.table_books_come_back.Goals as goal

pub returns : goal.returns
returns c = book_back

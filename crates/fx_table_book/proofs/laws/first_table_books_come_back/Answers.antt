use Rattle.fx_table_book.proofs.FirstBack.{first_back}
use Rattle.fx_table_book.proofs.laws.first_table_books_come_back.Goals as goal

pub returns : goal.returns
returns c = first_back

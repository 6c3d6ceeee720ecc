use Rattle.fx_book.proofs.ValidTexts.{read_is_valid}
use Rattle.fx_book.proofs.laws.read_books_are_valid.Goals as goal

pub returns : goal.returns
returns c = read_is_valid

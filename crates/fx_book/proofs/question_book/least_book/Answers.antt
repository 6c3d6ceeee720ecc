use Rattle.fx_book.proofs.QuestionBooks.{book_of_least}
use Rattle.fx_book.proofs.question_book.least_book.Goals as goal

pub returns : goal.returns
returns c = book_of_least c.args.question c.args.marks c.requires.marks c.args.pattern c.requires.pattern

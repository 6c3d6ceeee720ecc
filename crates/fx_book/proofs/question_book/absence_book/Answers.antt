use Rattle.std.proofs.Common.{sym}
use Rattle.fx_book.proofs.QuestionBooks.{book_of_none}
use Rattle.fx_book.proofs.question_book.absence_book.Goals as goal

pub returns : goal.returns
returns c = sym (book_of_none c.args.question c.args.marks c.requires.marks c.requires.none)

use Rattle.std.proofs.Common.{◌++◌, ap, ◌∙◌}
use Rattle.std.proofs.lemmas.Result.{on_ok_weaker}
use Rattle.fx_vectors.specs.Question.{problem_of}
use Rattle.fx_answer.proofs.Booked.{book_of_none}
use Rattle.fx_answer.proofs.booking.add_absence.Goals as goal

pub returns : goal.returns
returns c =
    on_ok_weaker c.add.result
    (λ e. e ∙ ap (λ l. c.args.books.now ++ l)
    (book_of_none c.args.number (problem_of c.args.question) c.absence_book.result c.absence_book.ensures
    c.requires.none)) c.add.ensures

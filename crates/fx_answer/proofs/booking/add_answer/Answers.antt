use Rattle.std.proofs.Common.{◌++◌, ap, ◌∙◌}
use Rattle.std.proofs.lemmas.Bool.{not-false, not-true}
use Rattle.std.proofs.lemmas.Result.{on_ok_weaker}
use Rattle.fx_designs.specs.Patterns.{pattern_of}
use Rattle.fx_vectors.specs.Shape.{dimensions_of}
use Rattle.fx_answer.proofs.Booked.{book_of_least, no_book, to_beat}
use Rattle.fx_answer.proofs.booking.add_answer.Goals as goal

pub returns-then-not-question : goal.returns-then-not-question
returns-then-not-question c =
    no_book c.args.number _ c.args.matrix.now.rows c.args.books.now
    (not-true _ c.if-not-question.true) c.requires.answer

pub least_book-requires-clause-pattern : goal.least_book-requires-clause-pattern
least_book-requires-clause-pattern c =
    to_beat _ c.args.matrix.now.rows c.in_ok-pattern.pattern
    (not-false _ c.if-not-question.false) c.requires.answer
    (c.in_ok-pattern.ensures ∙ ap (λ shape. pattern_of (dimensions_of shape) c.args.matrix.now.rows) c.requires.shape)

pub returns : goal.returns
returns c =
    on_ok_weaker c.add.result
    (λ e. e ∙ ap (λ l. c.args.books.now ++ l) (book_of_least c.args.number _ c.least_book.result c.least_book.ensures
    (not-false _ c.if-not-question.false))) c.add.ensures

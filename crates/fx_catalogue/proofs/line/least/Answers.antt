use Rattle.std.proofs.Common.{◌∙◌, ap, sym}
use Rattle.fx_designs.specs.Nodes.{marks}
use Rattle.fx_vectors.specs.Question.{problem_of}
use Rattle.fx_catalogue.specs.Lines.{question_of}
use Rattle.fx_catalogue.proofs.Answered.{least-line, to-beat}
use Rattle.fx_catalogue.proofs.line.least.Goals as goal

pub least_book-book-requires-clause-pattern : goal.least_book-book-requires-clause-pattern
least_book-book-requires-clause-pattern c =
    to-beat c.args.matrix.shape c.args.matrix.rows c.in_ok-beat.beat c.question_of.result
    (c.question_of.ensures ∙ ap question_of c.shape.ensures.shape) c.requires.answer
    (cc (c.in_ok-beat.ensures, c.as_slice.ensures, c.in_ok-pattern.ensures))

pub least_book-book-requires-clause-marks : goal.least_book-book-requires-clause-marks
least_book-book-requires-clause-marks c =
    let same = c.question_of.ensures ∙ ap question_of c.shape.ensures.shape in
    c.requires.marks ∙ ap (λ q. marks (problem_of q)) (sym same)

pub returns : goal.returns
returns c =
    least-line c.args.matrix c.args.budget c.args.count c.in_ok-pattern.pattern c.least_book-book.result
    c.requires.answer c.requires.count c.in_ok-pattern.ensures
    (cc (c.least_book-book.ensures, (c.question_of.ensures ∙ ap question_of c.shape.ensures.shape))) c.requires.within

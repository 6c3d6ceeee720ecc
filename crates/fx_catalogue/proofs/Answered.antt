-- The line of an answer.
use Rattle.std.proofs.Common.{ℕ, ◌≡◌, ◌<◌, ◌≤◌, List, length, Option, Some, None, sym, arith, subst, inl}
use Rattle.std.proofs.Common.{inr}
use Rattle.std.specs.Prelude.{nat_lt}
use Rattle.std.proofs.lemmas.Bool.{cases_Bool, cond-true, cond-false, lt-ltb, le-ltb}
use Rattle.fx_designs.specs.Patterns.{pattern_of}
use Rattle.fx_designs.specs.Answers.{answer}
use Rattle.fx_designs.specs.Nodes.{nodes}
use Rattle.fx_reduction.proofs.ShortWords.{pattern-length}
use Rattle.fx_vectors.specs.declared.book.Book.{Book}
use Rattle.fx_vectors.specs.declared.shape.Shape.{Shape}
use Rattle.fx_vectors.specs.declared.question.Question.{Question}
use Rattle.fx_vectors.specs.Matrix.{MatrixView}
use Rattle.fx_vectors.specs.Question.{problem_of}
use Rattle.fx_vectors.specs.Shape.{dimensions_of}
use Rattle.fx_book.specs.QuestionBooks.{beat_of, book_for}
use Rattle.fx_catalogue.specs.declared.line.Line.TheVariants.{Least, Nothing, Budget}
use Rattle.fx_catalogue.specs.Lines.{line_by, line_of, problem_at, question_of}
use Rattle.fx_catalogue.specs.Listing.{IsShort}

abbrev pub count_at : Shape → ℕ
count_at shape = length (nodes (problem_at shape))

-- within the budget the line is that of the answer
pub within : (shape : Shape) (budget : ℕ) (found : Option (List ℕ)) → count_at shape ≤ budget
    → answer (problem_at shape) ≡ found
    → line_by shape found ≡ line_of shape budget
unfolding line_of
within shape budget found le is =
    cc (cond-false _ Budget (line_by shape (answer (problem_at shape)))
    (le-ltb budget _ le))

pub budget-line : (shape : Shape) (budget : ℕ) → budget < count_at shape → Budget ≡ line_of shape budget
unfolding line_of
budget-line shape budget more =
    sym (cond-true _ Budget (line_by shape (answer (problem_at shape)))
    (lt-ltb budget _ more))

pub nothing-line : (shape : Shape) (budget count : ℕ) (book : Book) → answer (problem_at shape) ≡ None
    → count ≡ count_at shape → book ≡ book_for (problem_at shape) → count ≤ budget
    → Nothing count book ≡ line_of shape budget
nothing-line shape budget count book none ec eb le =
    cc (within shape budget None (omega arith) none)

pub least-line : (matrix : MatrixView) (budget count : ℕ) (pattern : List ℕ) (book : Book)
    → answer (problem_at matrix.shape) ≡ Some matrix.rows → count ≡ count_at matrix.shape
    → pattern ≡ pattern_of (dimensions_of matrix.shape) matrix.rows
    → book ≡ book_for (problem_at matrix.shape) → count ≤ budget
    → Least matrix pattern count book ≡ line_of matrix.shape budget
least-line matrix budget count pattern book is ec ep eb le =
    cc (within matrix.shape budget _ (omega arith) is)

-- the pattern of the answer is the one to beat
pub to-beat : (shape : Shape) (rows beat : List ℕ) (question : Question) → question ≡ question_of shape
    → answer (problem_at shape) ≡ Some rows → beat ≡ pattern_of (dimensions_of shape) rows
    → beat_of (problem_of question) ≡ Some beat
to-beat shape rows beat question eq is eb =
    cc

-- a pattern has a number for each factor
by_short : (shape : Shape) → shape.s ≤ 254 → (found : Option (List ℕ)) → IsShort (line_by shape found)
by_short shape few None = tt
by_short shape few (Some rows) = rw (pattern-length (dimensions_of shape) rows) few

pub short : (shape : Shape) (budget : ℕ) → shape.s ≤ 254 → IsShort (line_of shape budget)
unfolding line_of
short shape budget few = elim (cases_Bool (nat_lt budget (count_at shape))) [
  | inl more ↦
      subst IsShort (sym (cond-true _ Budget (line_by shape (answer (problem_at shape))) more))
      tt
  | inr inside ↦
      subst IsShort
      (sym (cond-false _ Budget (line_by shape (answer (problem_at shape))) inside))
      (by_short shape few (answer (problem_at shape)))
]

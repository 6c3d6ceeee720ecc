-- Where a walk through a book is.
use Rattle.std.specs.Prelude.{ℕ, ◌≡◌, ◌<◌, ◌≤◌, ◌+◌, ◌^◌, true, List, length, Option}
use Rattle.fx_designs.specs.Canonical.{is_canonical}
use Rattle.fx_designs.specs.Problems.{Dimensions, Problem}
use Rattle.fx_book.specs.Valid.{IsValidBook}
use Rattle.fx_tree.specs.Following.{front_of}
use Rattle.fx_vectors.specs.declared.book.Book.{Book}
use Rattle.fx_vectors.specs.Question.{requirement_of}
use Rattle.fx_vectors.specs.Shape.{dimensions_of}
use Rattle.fx_checker.specs.Turns.{extends}
use Rattle.fx_checker.specs.declared.walk.Walk.{Walk}

-- all parts of a walk through the book are at a canonical prefix that is not whole
pub record IsAt {J : Type 0} (dimensions : J → Dimensions) (beat : J → Option (List ℕ)) (judged : J → List ℕ)
    (book : Book) (w : Walk J) : Type 0 where
  pub valid : IsValidBook book
  pub book_is : w.book.now ≡ book
  pub words_are : w.words ≡ book.head.question
  pub candidates_are : w.candidates ≡ book.head.question.shape
  pub judge_dimensions : dimensions w.judge ≡ dimensions_of book.head.question.shape
  pub judge_beat : beat w.judge ≡ book.head.beat
  pub judge_rows : judged w.judge ≡ w.prefix.rows
  pub shape : w.prefix.shape ≡ book.head.question.shape
  pub canonical : is_canonical (dimensions_of book.head.question.shape) (requirement_of book.head.question.demands)
      w.prefix.rows
      ≡ true
  pub part : length w.prefix.rows < book.head.question.shape.s + book.head.question.shape.t
  pub front_is : w.front ≡ front_of (dimensions_of book.head.question.shape) w.prefix.rows
  pub rank : w.front.rank ≤ book.head.question.shape.m
  pub below : w.below ≤ book.head.question.shape.q ^ book.head.question.shape.m

-- a row, below q^m, extends a prefix to a canonical one
pub record IsChild (p : Problem) (rows : List ℕ) (row : ℕ) : Type 0 where
  pub below : row < p.dimensions.q ^ p.dimensions.m
  pub canonical : extends p rows row ≡ true

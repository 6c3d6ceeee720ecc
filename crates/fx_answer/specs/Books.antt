-- The books of a step: why questions that were finished have no answer, or none of less pattern.
use Rattle.std.specs.Prelude.{ℕ, ◌+◌, if◌then◌else◌, List, [], ◌∷◌, ◌++◌, Option, Some, None, find}
use Rattle.fx_designs.specs.Problems.{Problem}
use Rattle.fx_vectors.specs.declared.book.NamedBook.{NamedBook}
use Rattle.fx_book.specs.QuestionBooks.{book_for, has_book}
use Rattle.fx_statements.specs.Steps.{Meaning}
use Rattle.fx_statements.specs.Questions.{Questions, Turn, asked, passes, questions_of, turns}

-- the book of the question of this number, where it has one
abbrev pub book_at : ℕ → Problem → List NamedBook
book_at number p = if has_book p then record { question = number; book = book_for p } ∷ [] else []

-- the books of questions that are numbered from this one on
abbrev pub books_from : ℕ → List Problem → List NamedBook
books_from number [] = []
books_from number (p ∷ ps) = book_at number p ++ books_from (number + 1) ps

-- of the questions that are asked those that are finished: all, or those before the one in which the budget ended
abbrev pub finished_before : List Problem → Option Turn → List Problem
finished_before ps None = ps
finished_before ps (Some turn) = turn.earlier

unfoldable pub finished : Questions → ℕ → List Problem
finished questions budget = finished_before (asked questions) (find (passes budget) (turns [] (asked questions)))

-- the books of a step, whose questions are numbered from 1 on
abbrev pub books_of : Meaning → List NamedBook
books_of step = books_from 1 (finished (questions_of step) step.settings.budget)

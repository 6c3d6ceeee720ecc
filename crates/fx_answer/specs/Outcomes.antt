-- The outcome of a step.
use Rattle.std.specs.Prelude.{◌≡◌, ◌≤◌, ◌^◌, length, All}
use Rattle.fx_vectors.specs.Shape.{IsShape}
use Rattle.fx_vectors.specs.declared.book.NamedBook.{NamedBook}
use Rattle.fx_statements.specs.declared.outcome.Outcome.{Outcome}
use Rattle.fx_statements.specs.Questions.{conclusion_in, outcome_of}
use Rattle.fx_statements.specs.Steps.{Meaning}
use Rattle.fx_answer.specs.Books.{books_of}

-- the shape of the book's question is within the limits
abbrev pub HasShape : NamedBook → Type 0
HasShape named = IsShape named.book.head.question.shape

-- that of a step, with a row for each of its factors, at most 1,024 blocks, and the books of the finished questions
pub record IsOutcome (step : Meaning) (outcome : Outcome) : Type 0 where
  pub concluded : conclusion_in outcome ≡ outcome_of step
  pub factors : outcome.shape.s ≡ length step.factors
  pub few_blocks : outcome.shape.q ^ outcome.shape.t ≤ 1024
  pub books : outcome.books ≡ books_of step
  pub shapes : All HasShape outcome.books

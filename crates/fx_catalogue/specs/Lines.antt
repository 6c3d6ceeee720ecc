-- A line of a catalogue: for some dimensions the design of least pattern among all of resolution 3 or more, or that there
-- is none.
use Rattle.std.specs.Prelude.{ℕ, nat_lt, true, if◌then◌else◌, List, length, Option, Some, None}
use Rattle.fx_designs.specs.Problems.{Problem}
use Rattle.fx_designs.specs.Patterns.{pattern_of}
use Rattle.fx_designs.specs.Answers.{answer}
use Rattle.fx_designs.specs.Nodes.{nodes}
use Rattle.fx_vectors.specs.Shape.{dimensions_of}
use Rattle.fx_vectors.specs.Question.{problem_of}
use Rattle.fx_vectors.specs.declared.shape.Shape.{Shape}
use Rattle.fx_vectors.specs.declared.question.Question.{Question}
use Rattle.fx_vectors.specs.declared.question.Demands.TheVariants.{Resolution}
use Rattle.fx_book.specs.QuestionBooks.{book_for}
use Rattle.fx_catalogue.specs.declared.line.Line.{Line}
use Rattle.fx_catalogue.specs.declared.line.Line.TheVariants.{Least, Nothing, Budget}

-- the question of a line: of the designs of resolution 3 or more the first of least pattern
abbrev pub question_of : Shape → Question
question_of shape = record { shape = shape; demands = Resolution 3; least = true }

abbrev pub problem_at : Shape → Problem
problem_at shape = problem_of (question_of shape)

-- the line by the answer of its question, with the book of the question
abbrev pub line_by : Shape → Option (List ℕ) → Line
line_by shape None = Nothing (length (nodes (problem_at shape))) (book_for (problem_at shape))
line_by shape (Some rows) =
    Least (record { shape = shape; rows = rows }) (pattern_of (dimensions_of shape) rows)
    (length (nodes (problem_at shape))) (book_for (problem_at shape))

-- the line within a budget of nodes
unfoldable pub line_of : Shape → ℕ → Line
line_of shape budget =
    if nat_lt budget (length (nodes (problem_at shape))) then Budget else line_by shape (answer (problem_at shape))

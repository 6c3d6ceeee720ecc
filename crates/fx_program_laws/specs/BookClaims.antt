-- What is claimed of the books of a step, and of those of a catalogue.
use Rattle.std.specs.Prelude.{ℕ, ◌≡◌, ◌<◌, ◌⊎◌, ◌+◌, true, false, List, [], ◌∷◌, Option, Some, None, Ok, All, codes}
use Rattle.std.specs.Prelude.{is_some, slice_get}
use Rattle.std.specs.List.{Contains}
use Rattle.fx_base.specs.Acts.{WholeFile}
use Rattle.fx_designs.specs.Outcomes.{Design}
use Rattle.fx_designs.specs.Patterns.{pattern_of, resolution_of}
use Rattle.fx_designs.specs.Problems.{Dimensions, Problem, Requirement, AtResolution}
use Rattle.fx_reduction.specs.BlockedResolutions.{top_resolution}
use Rattle.fx_reduction.specs.Strengths.{with_block}
use Rattle.fx_settings.specs.declared.settings.Blocks.TheVariants.{Most}
use Rattle.fx_settings.specs.Valid.{has_blocks}
use Rattle.fx_vectors.specs.Question.{problem_of}
use Rattle.fx_vectors.specs.declared.book.Book.{Book}
use Rattle.fx_vectors.specs.declared.shape.Shape.{Shape}
use Rattle.fx_vectors.specs.declared.book.NamedBook.{NamedBook}
use Rattle.fx_catalogue.specs.Laws.{head_at}
use Rattle.fx_catalogue.specs.declared.line.Line.{Line}
use Rattle.fx_catalogue.specs.declared.line.Line.TheVariants.{Least, Nothing, Budget}
use Rattle.fx_book.specs.Heads.{book_of}
use Rattle.fx_book.specs.Writing.{book_text}
use Rattle.fx_checker.specs.declared.verdict.Verdict.TheVariants.{Accepted}
use Rattle.fx_settings.specs.declared.settings.Criterion.TheVariants.{Highest}
use Rattle.fx_statements.specs.Questions.{asked, outcome_of, questions_of}
use Rattle.fx_statements.specs.Steps.{Meaning}
use Rattle.fx_book.specs.QuestionBooks.{book_for, has_book}
use Rattle.fx_answer.specs.Books.{books_of, finished}
use Rattle.fx_answer.specs.StepClaims.{Allows}
use Rattle.fx_program.specs.Files.{book_name}
use Rattle.fx_program.specs.Commands.{AreGiven}
use Rattle.fx_program.specs.Output.{message, step_output}
use Rattle.fx_program.specs.Plans.{AskedView}
use Rattle.fx_program.specs.Verdicts.{verdict_lines}

-- a book that is read from its text as it is, and that the command `check` accepts, with status 0
pub record IsAcceptedBook (named : NamedBook) : Type 0 where
  pub read : book_of (book_text named.book) ≡ Ok named.book
  pub accepted : AreGiven (codes "check" ∷ []) (book_text named.book)
      (message (verdict_lines named.book.head Accepted) 0)

-- a book of a line of a catalogue of this shape is one, and the line's own: with this pattern to beat, or none
pub record IsBookOfLine (shape : Shape) (beat : Option (List ℕ)) (book : Book) : Type 0 where
  pub is_accepted : IsAcceptedBook (record { question = shape.s; book = book })
  pub head_is : book.head ≡ head_at shape beat

-- the book of a line of a catalogue, where the line has one: a least pattern is the one to beat
abbrev pub HasAcceptedBook : Shape → Line → Type 0
HasAcceptedBook shape (Least matrix pattern count book) = IsBookOfLine shape (Some pattern) book
HasAcceptedBook shape (Nothing count book) = IsBookOfLine shape None book
HasAcceptedBook shape Budget = Unit {0}

-- each book of a step is one
abbrev pub HasAcceptedBooks : Meaning → Type 0
HasAcceptedBooks step = All IsAcceptedBook (books_of step)

-- the files of a step have the book of each of its questions that is finished and has one: under the numbers of the
-- step and of the question
abbrev pub HasABookForEach : ℕ → ℕ → List AskedView → Meaning → Type 0
HasABookForEach seed number earlier step = (k : ℕ) (p : Problem)
    → slice_get (finished (questions_of step) step.settings.budget) k ≡ Some p
    → has_book p ≡ true
    → Contains (step_output seed number earlier step).events
    (WholeFile (book_name number (k + 1)) (book_text (book_for p)))

-- and of each question that is asked
abbrev pub HasABookForEachAsked : ℕ → ℕ → List AskedView → Meaning → Type 0
HasABookForEachAsked seed number earlier step = (k : ℕ) (p : Problem)
    → slice_get (asked (questions_of step)) k ≡ Some p
    → Contains (step_output seed number earlier step).events
    (WholeFile (book_name number (k + 1)) (book_text (book_for p)))

-- The files of a step have a book that claims that the runs of no rule matrix of these dimensions meet what is wanted,
-- or, with a pattern, that none of those that do has a less one.
pub record HasBook (seed number : ℕ) (earlier : List AskedView) (step : Meaning) (d : Dimensions)
    (wanted : Requirement) (beat : Option (List ℕ)) : Type 0 where
  pub question : ℕ
  pub book : Book
  pub among : Contains (step_output seed number earlier step).events
      (WholeFile (book_name number question) (book_text book))
  pub about : problem_of book.head.question ≡ record { dimensions = d; requirement = wanted; least = is_some beat }
  pub pattern : book.head.beat ≡ beat

-- where the highest resolution is asked, without blocks, one that none has the next, unless the design has no defining
-- words
abbrev pub HighestHasBook : ℕ → ℕ → List AskedView → Meaning → Type 0
HighestHasBook seed number earlier step = (rows : List ℕ) (count : ℕ)
    → step.settings.criterion ≡ Highest
    → step.settings.least ≡ false
    → has_blocks step.settings.blocks ≡ false
    → (outcome_of step).ending ≡ Design rows count
    → (resolution_of (pattern_of (outcome_of step).dimensions rows) ≡ (outcome_of step).dimensions.s + 1)
    ⊎ HasBook seed number earlier step (outcome_of step).dimensions
    (AtResolution (resolution_of (pattern_of (outcome_of step).dimensions rows) + 1)) None

-- where it is asked in blocks, one that none meets the next after that which was reached, unless it is the highest that
-- is asked for
abbrev pub HighestInBlocksHasBook : ℕ → ℕ → List AskedView → Meaning → Type 0
HighestInBlocksHasBook seed number earlier step = (rows : List ℕ) (count : ℕ)
    → step.settings.criterion ≡ Highest
    → has_blocks step.settings.blocks ≡ true
    → (outcome_of step).ending ≡ Design rows count
    → ((outcome_of step).reached ≡ top_resolution (outcome_of step).dimensions)
    ⊎ HasBook seed number earlier step (outcome_of step).dimensions (AtResolution ((outcome_of step).reached + 1)) None

-- where least aberration is asked, one that none has a less pattern than the design
abbrev pub LeastPatternHasBook : ℕ → ℕ → List AskedView → Meaning → Type 0
LeastPatternHasBook seed number earlier step = (rows : List ℕ) (count : ℕ)
    → step.settings.least ≡ true
    → (outcome_of step).ending ≡ Design rows count
    → HasBook seed number earlier step (outcome_of step).dimensions step.requirement
    (Some (pattern_of (outcome_of step).dimensions rows))

-- for each smaller size that the step allows, one that there is no design: with the least size, that is
abbrev pub LeastSizeHasBooks : ℕ → ℕ → List AskedView → Meaning → Type 0
LeastSizeHasBooks seed number earlier step = (rows : List ℕ) (count : ℕ) (d : Dimensions)
    → (outcome_of step).ending ≡ Design rows count
    → Allows step d
    → d.m < (outcome_of step).dimensions.m
    → HasBook seed number earlier step d step.requirement None

-- where the most blocks are asked, one that there is no design with one block factor more
abbrev pub MostBlocksHasBook : ℕ → ℕ → List AskedView → Meaning → Type 0
MostBlocksHasBook seed number earlier step = (rows : List ℕ) (count : ℕ)
    → step.settings.blocks ≡ Most
    → (outcome_of step).ending ≡ Design rows count
    → HasBook seed number earlier step (with_block (outcome_of step).dimensions) step.requirement None

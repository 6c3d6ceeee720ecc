-- What is claimed of each step of a program, of the program's status, of a book that is accepted, and of a catalogue.
use Rattle.std.specs.Prelude.{slice_range, ℕ, ◌≡◌, ◌<◌, ◌≤◌, ◌⊎◌, true, List, [], ◌∷◌, ◌++◌, Some, Result, Ok, Err, All}
use Rattle.std.specs.List.{Contains}
use Rattle.fx_designs.specs.Problems.{AtResolution, Dimensions}
use Rattle.fx_designs.specs.Matrices.{NoneMeets}
use Rattle.fx_vectors.specs.Matrix.{MatrixView}
use Rattle.fx_vectors.specs.Question.{problem_of}
use Rattle.fx_vectors.specs.Shape.{dimensions_of}
use Rattle.fx_vectors.specs.declared.book.Book.{Book}
use Rattle.fx_book.specs.Heads.{book_of}
use Rattle.fx_checker.specs.Laws.{NoMatrix}
use Rattle.fx_strata.specs.Laws.{NoneBetter}
use Rattle.fx_table_book.specs.Texts as tables
use Rattle.fx_table_book.specs.Texts.{Contents}
use Rattle.fx_catalogue.specs.Catalogues.{Entry, entries, is_nothing, shape_at}
use Rattle.fx_catalogue.specs.Laws.{Holds}
use Rattle.fx_statements.specs.Questions.{outcome_of}
use Rattle.fx_statements.specs.Steps.{Meaning}
use Rattle.fx_rules.specs.Parts.{parts_of}
use Rattle.fx_rules.specs.Reading.{matrix_of_rules}
use Rattle.fx_rules.specs.declared.parts.Part.{Part}
use Rattle.fx_program.specs.Files.{matrix_in}
use Rattle.fx_program.specs.Planning.{RuledView, met_by, planned_in, shape_given}
use Rattle.fx_program.specs.Statuses.{met_status}
use Rattle.fx_program.specs.Output.{step_status}
use Rattle.fx_program.specs.TableVerdicts.{claim_in}
use Rattle.fx_answer.specs.StepClaims.{Allows, ClaimsHold, IsAsItAsks, OfOutcome}
use Rattle.fx_program.specs.declared.text.TextFault.{TextFault}

-- a claim on each step of a program; a text that is refused has none
abbrev pub EachStep : (Meaning → Type 0) → Result (List Meaning) TextFault → Type 0
EachStep Claimed (Ok steps) = All Claimed steps
EachStep Claimed (Err fault) = Unit {0}

-- what is claimed of the outcome of each step holds of all rule matrices, canonical or not
abbrev pub AllClaimsHold : Result (List Meaning) TextFault → Type 0
AllClaimsHold program = EachStep (OfOutcome ClaimsHold) program

-- the matrix of which the listing and the plans of a step are made, if there is one, is as the step asks
abbrev pub HasMatrixAsAsked : Meaning → Type 0
HasMatrixAsAsked step = (matrix : MatrixView)
    → matrix_in (outcome_of step).dimensions (outcome_of step).ending ≡ Some matrix
    → IsAsItAsks step (dimensions_of matrix.shape) matrix.rows

-- some step of the program has no design at all: it ends with status 1, and the runs of no rule matrix meet what is
-- required, in no dimensions that it allows
pub record SomeHasNone (program : Result (List Meaning) TextFault) : Type 0 where
  pub steps : List Meaning
  pub accepted : program ≡ Ok steps
  pub step : Meaning
  pub among : Contains steps step
  pub one : step_status step ≡ 1
  pub none : (d : Dimensions) → Allows step d → NoneMeets d step.requirement

-- some of these steps ends with this status
pub record SomeEndsWith {A : Type 0} (status_of : A → ℕ) (status : ℕ) (steps : List A) : Type 0 where
  pub step : A
  pub among : Contains steps step
  pub ends : status_of step ≡ status

-- the greatest of the statuses of these steps, and 0 without a step
pub record IsGreatest {A : Type 0} (status_of : A → ℕ) (status : ℕ) (steps : List A) : Type 0 where
  pub each : All (λ step. status_of step ≤ status) steps
  pub some : 0 < status → SomeEndsWith status_of status steps

-- the rules of some part of the text give the step its matrix
pub record IsOfItsRules (text : List ℕ) (one : RuledView) : Type 0 where
  pub part : Part
  pub among : Contains (parts_of text) part
  pub read :
      matrix_of_rules (shape_given one.step) one.step.factors (slice_range text part.at part.end) ≡ Ok one.matrix

-- What `plan` gives for this text with this status: for each step the design of its rules, which meets the model where
-- there is one, if the status is 0; if it is 1, some does not.
pub record IsPlanned (text : List ℕ) (status : ℕ) : Type 0 where
  pub steps : List RuledView
  pub read : planned_in text ≡ Ok steps
  pub each : All (IsOfItsRules text) steps
  pub status_is : IsGreatest (λ one. met_status (met_by one)) status steps

-- a text that is a book whose claim holds: the runs of no rule matrix at all, canonical or not, meet what its head
-- asks, or, where the head has a pattern, none of those that do has a less one
pub record IsProvedBook (text : List ℕ) : Type 0 where
  pub book : Book
  pub read : book_of text ≡ Ok book
  pub claim : NoMatrix (problem_of book.head.question) book.head.beat

-- a text that is the book of a table whose claim holds of all designs in blocks or split plots
pub record IsProvedTable (text : List ℕ) : Type 0 where
  pub book : Contents
  pub read : tables.book_of text ≡ Ok book
  pub claim : NoneBetter (claim_in book)

-- a text that is a book of either kind whose claim holds
abbrev pub IsProved : List ℕ → Type 0
IsProved text = IsProvedBook text ⊎ IsProvedTable text

-- the lines of a catalogue with q levels and q^m runs end with one without a design, and no rule matrix with as many
-- factors as that one, or more, has resolution 3
pub record EndsWithNone (q m : ℕ) (list : List Entry) : Type 0 where
  pub earlier : List Entry
  pub last : Entry
  pub behind : list ≡ earlier ++ last ∷ []
  pub nothing : is_nothing last.line ≡ true
  pub none : (s : ℕ) → last.factors ≤ s → NoneMeets (dimensions_of (shape_at q m s)) (AtResolution 3)

-- What the catalogue of these numbers claims with this status. What each line claims holds of all rule matrices,
-- canonical or not: that of those of resolution 3 or more none has a less pattern, or that there is none, and its book
-- is good; or the question has more nodes than the budget. With status 1 the last line ends it.
pub record CatalogueHolds (q m most budget status : ℕ) : Type 0 where
  pub lines : All (λ (e : Entry). Holds (shape_at q m e.factors) budget e.line) (entries q m most budget)
  pub none : status ≡ 1 → EndsWithNone q m (entries q m most budget)

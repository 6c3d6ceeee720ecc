-- The books of a step have shapes within the limits.
use Rattle.std.proofs.Common.{◌≡◌, ℕ, ◌≤◌, ◌+◌, ◌-◌, zero, suc, true, false, List, [], ◌∷◌, map, Option, Some}
use Rattle.std.proofs.Common.{None, All}
use Rattle.std.proofs.Common.{refl, arith, sym, subst}
use Rattle.std.specs.Prelude.{find, if◌then◌else◌}
use Rattle.std.specs.List.{AllByRecursion, range_with_len}
use Rattle.std.proofs.lemmas.List.Elements.{All-from_recursion}
use Rattle.fx_base.proofs.Lists.{each-append}
use Rattle.fx_designs.specs.Problems.{Problem}
use Rattle.fx_vectors.specs.Shape.{IsShape}
use Rattle.fx_statements.specs.Steps.{Meaning}
use Rattle.fx_statements.specs.Questions.{Turn, asked, conclusion_in, highest, lowest, outcome_of, passes}
use Rattle.fx_statements.specs.Questions.{question_for, questions_of, turns}
use Rattle.fx_statements.specs.declared.outcome.Outcome.{Outcome}
use Rattle.fx_statements.proofs.Concluded.{each_asked, kept_turn}
use Rattle.fx_book.specs.QuestionBooks.{book_for, has_book, shape_of}
use Rattle.fx_answer.specs.Books.{book_at, books_from, books_of, finished, finished_before}
use Rattle.fx_answer.specs.Outcomes.{HasShape, IsOutcome}
use Rattle.fx_answer.specs.Standing.{IsOutcomeOf}
use Rattle.fx_answer.specs.ValidSteps.{IsValidStep}
use Rattle.fx_answer.proofs.Valid.{shape_valid, some_numbers}

abbrev IsShaped : Problem → Type 0
IsShaped p = IsShape (shape_of p.dimensions)

-- the books of some questions
one_shaped : (number : ℕ) (p : Problem) → IsShaped p → AllByRecursion HasShape (book_at number p)
one_shaped number p h =
    elim (has_book p) as
    (λ b. AllByRecursion HasShape (if b then record { question = number; book = book_for p } ∷ [] else [])) [
      | true ↦ (h, tt)
      | false ↦ tt
    ]

books_shaped : (number : ℕ) (ps : List Problem) → AllByRecursion IsShaped ps
    → AllByRecursion HasShape (books_from number ps)
books_shaped number [] h = tt
books_shaped number (p ∷ ps) h =
    each-append HasShape _ _ (one_shaped number p h.0)
    (books_shaped (number + 1) ps h.1)

module _ (step : Meaning) (valid : IsValidStep step) where
  abbrev low : ℕ
  low = lowest step step.settings.size

  abbrev high : ℕ
  high = highest step step.settings.size

  others_shaped : (a n : ℕ) → low ≤ a → a + n ≤ high + 1
      → AllByRecursion IsShaped (map (question_for step) (range_with_len a n))
  others_shaped a zero from upto = tt
  others_shaped a (suc n) from upto = (
    (shape_valid step valid a from (omega arith)).shaped,
    others_shaped (a + 1) n (omega arith) (omega arith),
  )

  asked_shaped : AllByRecursion IsShaped (asked (questions_of step))
  asked_shaped =
      let some = some_numbers step valid low refl in
      each_asked IsShaped _ (shape_valid step valid low (omega arith) some).shaped
      (others_shaped (low + 1) (high - low) (omega arith) (omega arith))

  finished_shaped : AllByRecursion IsShaped (finished (questions_of step) step.settings.budget)
  unfolding finished
  finished_shaped =
      before _ refl
    where
      before : (o : Option Turn) → find (passes step.settings.budget) (turns [] (asked (questions_of step))) ≡ o
          → AllByRecursion IsShaped (finished_before (asked (questions_of step)) o)
      before None e = asked_shaped
      before (Some turn) e =
          (kept_turn IsShaped (passes step.settings.budget) [] (asked (questions_of step)) turn tt asked_shaped e).0

  pub shaped_books : All HasShape (books_of step)
  shaped_books =
      All-from_recursion HasShape _
      (books_shaped 1 _ finished_shaped)

-- an outcome is that of a step by what it states, its shape and its books
pub is_outcome : (step : Meaning) → IsValidStep step → (outcome : Outcome) → IsOutcomeOf step outcome
    → conclusion_in outcome ≡ outcome_of step
    → outcome.books ≡ books_of step
    → IsOutcome step outcome
is_outcome step valid outcome of concluded books = record {
  concluded = concluded;
  factors = of.factors;
  few_blocks = of.few_blocks;
  books = books;
  shapes = subst (All HasShape) (sym books) (shaped_books step valid);
}

-- The books of a step whose questions may be asked are read from their texts as they are, and are accepted.
use Rattle.std.proofs.Common.{ℕ, ◌≡◌, ◌≤◌, ◌+◌, ◌-◌, true, false, List, [], ◌∷◌, ◌++◌, length, Option, Some, None, Ok}
use Rattle.std.proofs.Common.{IsTrue, refl, sym, ◌∙◌, subst, arith, inl, inr, append-nil, append_assoc}
use Rattle.std.specs.Prelude.{codes, find, if◌then◌else◌}
use Rattle.std.specs.List.{AllByRecursion}
use Rattle.std.proofs.lemmas.Bool.{cases_Bool, cond-true, cond-false, and_parts, leb-true, ltb-false}
use Rattle.std.proofs.lemmas.List.{length-map}
use Rattle.std.proofs.lemmas.List.Elements.{All-from_recursion}
use Rattle.std.proofs.lemmas.List.Sums.{sum_by_push}
use Rattle.fx_base.proofs.Lists.{each-append, each-map}
use Rattle.fx_base.proofs.Ranges.{each-range}
use Rattle.fx_designs.specs.Problems.{Problem, Requirement, AtResolution, ForEffects}
use Rattle.fx_designs.specs.Nodes.{mark_of, marks, nodes}
use Rattle.fx_vectors.specs.Question.{CanBeAsked, is_resolution}
use Rattle.fx_vectors.specs.Shape.{IsShape}
use Rattle.fx_vectors.specs.declared.effect.Effect.{Effect}
use Rattle.fx_settings.specs.declared.settings.StepSettings.{StepSettings}
use Rattle.fx_settings.specs.Valid.{are_valid}
use Rattle.fx_vectors.specs.declared.book.Book.{Book}
use Rattle.fx_book.specs.Heads.{book_of}
use Rattle.fx_book.specs.Valid.{AreFew}
use Rattle.fx_book.specs.Writing.{book_text}
use Rattle.fx_book.proofs.Whole.{book_back}
use Rattle.fx_checker.specs.Books.{flaw_of}
use Rattle.fx_checker.specs.Claims.{claim_of}
use Rattle.fx_checker.specs.declared.verdict.Verdict.TheVariants.{Accepted}
use Rattle.fx_checker.proofs.Good.{in_turn_none}
use Rattle.fx_statements.specs.Valid.{CanBeRequired}
use Rattle.fx_statements.specs.Questions.{Turn, asked, highest, lowest, nodes_of, passes, question_for, questions_of}
use Rattle.fx_statements.specs.Questions.{requirement_for, seeks_highest, turns}
use Rattle.fx_statements.specs.Steps.{Meaning}
use Rattle.fx_statements.proofs.Concluded.{each_asked}
use Rattle.fx_book.specs.QuestionBooks.{book_for, demands_for, has_book, shape_of}
use Rattle.fx_answer.specs.Books.{book_at, books_from, finished, finished_before}
use Rattle.fx_answer.specs.ValidSteps.{IsValidStep}
use Rattle.fx_answer.proofs.Valid.{least_valid, requirement_valid, shape_valid, some_numbers}
use Rattle.fx_program_laws.specs.BookClaims.{HasAcceptedBooks, IsAcceptedBook}
use Rattle.fx_program.specs.Commands.{AreGiven}
use Rattle.fx_program.specs.Output.{message}
use Rattle.fx_program.specs.Verdicts.{verdict_lines}
use Rattle.fx_program.specs.CommandLine.{settings_of}
use Rattle.fx_program_laws.proofs.BookKinds.{checked_marks}
use Rattle.fx_program_laws.proofs.BookLengths.{book_short}
use Rattle.fx_program_laws.proofs.ValidBooks as books

-- a question that may be asked
pub record MayBeAsked (p : Problem) : Type 0 where
  pub shaped : IsShape (shape_of p.dimensions)
  pub asked : CanBeAsked p.dimensions p.requirement
  pub least : IsTrue p.least → IsTrue (is_resolution p.requirement) × (p.dimensions.t ≡ 0)
  pub few : AreFew (demands_for p.requirement)

-- and that is finished within a budget
abbrev pub IsFinished : ℕ → Problem → Type 0
IsFinished budget p = MayBeAsked p × (length (nodes p) ≤ budget)

-- the verdict on the text of a book without a flaw
is_accepted : (book : Book) → book_of (book_text book) ≡ Ok book → flaw_of (claim_of book.head) book.marks ≡ None
    → AreGiven (codes "check" ∷ []) (book_text book) (message (verdict_lines book.head Accepted) 0)
unfolding settings_of
is_accepted book read none =
    cc (checked_marks book)

pub accepted_book : (p : Problem) → IsFinished 5000000 p → (number : ℕ) → has_book p ≡ true
    → IsAcceptedBook (record { question = number; book = book_for p })
unfolding marks
accepted_book p finished number has =
    let book = book_for p in
    let valid =
    books.valid p finished.0.shaped finished.0.asked finished.0.least finished.0.few (omega arith) has in
    let read = book_back book valid (book_short book valid (omega (arith, length-map (nodes p) (mark_of p)))) in
    let none =
    in_turn_none _ _ 0 book.marks
    (books.good_book p finished.0.shaped finished.0.asked has) in
    record { read = read; accepted = is_accepted book read none }

each_book : (number : ℕ) (ps : List Problem) → AllByRecursion (IsFinished 5000000) ps
    → AllByRecursion IsAcceptedBook (books_from number ps)
each_book number [] all = tt
each_book number (p ∷ ps) all =
    each-append IsAcceptedBook _ _ own (each_book (number + 1) ps all.1)
  where
    own : AllByRecursion IsAcceptedBook (book_at number p)
    own = elim (cases_Bool (has_book p)) [
      | inl has ↦
          subst (AllByRecursion IsAcceptedBook) (sym (cond-true _ _ _ has))
          (accepted_book p all.0 number has, tt)
      | inr none ↦ subst (AllByRecursion IsAcceptedBook) (sym (cond-false _ _ _ none)) tt
    ]

-- of questions that may be asked, those that are finished within the budget
finished-in : (budget : ℕ) (earlier ps : List Problem) (end : Option Turn)
    → find (passes budget) (turns earlier ps) ≡ end
    → AllByRecursion (IsFinished budget) earlier → nodes_of earlier ≤ budget → AllByRecursion MayBeAsked ps
    → AllByRecursion (IsFinished budget) (finished_before (earlier ++ ps) end)
finished-in budget earlier [] None e done few all =
    subst (AllByRecursion (IsFinished budget)) (sym (append-nil earlier)) done
finished-in budget earlier [] (Some turn) e done few all = cc e
finished-in budget earlier (p ∷ ps) end e done few all =
    let own : Turn = record { earlier = earlier; question = p } in
    elim (cases_Bool (passes budget own)) [
      | inl here ↦
          rw (← (sym (cond-true _ (Some own) _ here) ∙ e)) done
      | inr later ↦
          let within =
          ltb-false budget _ later in
          let more = sum_by_push (λ (p : Problem). length (nodes p)) earlier p in
          rw (append_assoc earlier (p ∷ []) ps) at
          (finished-in budget (earlier ++ p ∷ []) ps end (sym (cond-false _ (Some own) _ later) ∙ e)
          (each-append _ earlier _ done ((all.0, omega arith), tt))
          (omega arith) all.1)
    ]

within_5000000 : (budget : ℕ) (ps : List Problem) → budget ≤ 5000000 → AllByRecursion (IsFinished budget) ps
    → AllByRecursion (IsFinished 5000000) ps
within_5000000 budget [] few all = tt
within_5000000 budget (p ∷ ps) few all = ((all.0.0, omega arith), within_5000000 budget ps few all.1)

module _ (step : Meaning) (some : lowest step step.settings.size ≤ highest step step.settings.size)
    (few : step.settings.budget ≤ 5000000)
    (may : (n : ℕ) → lowest step step.settings.size ≤ n → n ≤ highest step step.settings.size
    → MayBeAsked (question_for step n)) where
  all_asked : AllByRecursion MayBeAsked (asked (questions_of step))
  all_asked =
      let low = lowest step step.settings.size in
      let high = highest step step.settings.size in
      each_asked MayBeAsked _ (may low (omega arith) some)
      (each-map MayBeAsked _ _
      (each-range (λ n. MayBeAsked (question_for step n)) (low + 1) (high - low)
      (λ k above below. may k (omega arith) (omega arith))))

  pub all_accepted : HasAcceptedBooks step
  unfolding finished
  all_accepted =
      let budget = step.settings.budget in
      let ps = asked (questions_of step) in
      All-from_recursion IsAcceptedBook _
      (each_book 1 _
      (within_5000000 budget _ few
      (finished-in budget [] ps (find (passes budget) (turns [] ps)) refl tt (omega arith) all_asked)))

-- the questions of a valid step may be asked
few_of : (q s : ℕ) (requirement : Requirement) → CanBeRequired q s requirement → AreFew (demands_for requirement)
few_of q s (AtResolution r) askable = tt
few_of q s (ForEffects estimate others) askable =
    (omega (arith, length-map estimate by_number), omega (arith, length-map others by_number))
  where
    by_number : ℕ → Effect
    by_number n = record { 0 = n }

few_asked : (step : Meaning) → IsValidStep step → (n : ℕ) → AreFew (demands_for (requirement_for step n))
few_asked step valid n =
    elim (seeks_highest step.settings) as
    (λ seeks. AreFew (demands_for (if seeks then AtResolution n else step.requirement))) [
      | true ↦ tt
      | false ↦ few_of step.settings.q _ step.requirement valid.effects
    ]

may_be_asked : (step : Meaning) (valid : IsValidStep step) (n : ℕ) → lowest step step.settings.size ≤ n
    → n ≤ highest step step.settings.size → MayBeAsked (question_for step n)
may_be_asked step valid n low high = record {
  shaped = (shape_valid step valid n low high).shaped;
  asked = requirement_valid step valid n low high;
  least = least_valid step valid n low high;
  few = few_asked step valid n;
}

few_nodes : (x : StepSettings) → are_valid x ≡ true → x.budget ≤ 5000000
few_nodes x valid =
    let bounds = (and_parts _ _ (and_parts _ _ (and_parts _ _ (and_parts _ _ (and_parts _ _ valid).0).0).0).0).1 in
    leb-true x.budget 5000000 (and_parts _ _ bounds).1

pub step_accepted : (step : Meaning) → IsValidStep step → HasAcceptedBooks step
step_accepted step valid =
    all_accepted step (some_numbers step valid _ refl)
    (few_nodes step.settings valid.settings) (may_be_asked step valid)

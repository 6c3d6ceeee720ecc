-- The book of each finished question that has one is among the files of the step, and so those behind its claims are.
use Rattle.std.proofs.Common.{ℕ, ◌≡◌, ◌+◌, ◌||◌, not, Bool, true, false, zero, suc, List, [], ◌∷◌, ◌++◌, Option}
use Rattle.std.proofs.Common.{Some, None, is_some, refl, ap, ◌∙◌, subst, arith, inl, inr}
use Rattle.std.specs.Prelude.{slice_get, if◌then◌else◌}
use Rattle.std.specs.List.{Contains}
use Rattle.std.proofs.lemmas.Bool.{cond-true, or_right}
use Rattle.std.proofs.lemmas.List.{map-append}
use Rattle.std.proofs.lemmas.List.Elements.{All-get_or, Contains-append_left, Contains-append_right, Contains-get_or}
use Rattle.std.proofs.lemmas.Option.{get_or_from_slice_get, slice_get_within}
use Rattle.fx_designs.specs.Problems.{Dimensions, Problem, Requirement}
use Rattle.fx_designs.specs.Answers.{answer}
use Rattle.fx_designs.specs.Outcomes.{Design}
use Rattle.fx_designs.specs.Patterns.{pattern_of}
use Rattle.fx_base.specs.Acts.{WholeFile}
use Rattle.fx_vectors.specs.declared.book.NamedBook.{NamedBook}
use Rattle.fx_statements.specs.Steps.{Meaning}
use Rattle.fx_statements.specs.Questions.{Turn, asked, conclusion_by, conclusion_of, cut_short, last_of, left_at}
use Rattle.fx_statements.specs.Questions.{outcome_of, questions_of, reached_at, Found}
use Rattle.fx_statements.proofs.Concluded.{none-of}
use Rattle.fx_book.specs.QuestionBooks.{beat_of, book_for, has_book}
use Rattle.fx_book.specs.Writing.{book_text}
use Rattle.fx_answer.specs.Books.{book_at, books_from, finished, finished_before}
use Rattle.fx_answer.specs.ValidSteps.{IsValidStep}
use Rattle.fx_answer.proofs.Best.{IsAsked, highest_asked, least_asked, more_blocks_asked, next_in_blocks_asked}
use Rattle.fx_answer.proofs.Best.{smaller_asked}
use Rattle.fx_program.specs.Files.{book_file, book_files, book_name}
use Rattle.fx_program.specs.Output.{step_output}
use Rattle.fx_program.specs.Plans.{AskedView}
use Rattle.fx_program.specs.Statuses.{status_of}
use Rattle.fx_program.proofs.None.{none_at_one}
use Rattle.fx_program_laws.specs.BookClaims.{HasABookForEach, HasABookForEachAsked, HasBook, HighestHasBook}
use Rattle.fx_program_laws.specs.BookClaims.{HighestInBlocksHasBook}
use Rattle.fx_program_laws.specs.BookClaims.{LeastPatternHasBook, LeastSizeHasBooks, MostBlocksHasBook}
use Rattle.fx_program_laws.proofs.ValidBooks.{requirement_back}

abbrev named : ℕ → Problem → NamedBook
named n p = record { question = n; book = book_for p }

abbrev posed : Dimensions → Requirement → Bool → Problem
posed d wanted least = record { dimensions = d; requirement = wanted; least = least }

-- the book of a question among those of many, which are numbered from n on
among : (number n k : ℕ) (ps : List Problem) (p : Problem) → slice_get ps k ≡ Some p → has_book p ≡ true
    → Contains (book_files number (books_from n ps)) (book_file number (named (n + k) p))
among number n k [] p e has = cc e
among number n zero (q ∷ ps) p e has =
    let same : q ≡ p = cc e in
    let rest = book_files number (books_from (n + 1) ps) in
    let files : book_files number (books_from n (q ∷ ps)) ≡ book_file number (named n q) ∷ rest =
    cc (cond-true _ (named n q ∷ []) [] (ap has_book same ∙ has)) in
    let here : n ≡ n + zero = omega arith in
    rw files (subst (λ k. Contains (book_file number (named n q) ∷ rest) (book_file number (named k p))) here
    (subst (λ p. Contains (book_file number (named n q) ∷ rest) (book_file number (named n p))) same
    (Contains-get_or (book_file number (named n q) ∷ rest) 0 (book_file number (named n q)) (omega arith))))
among number n (suc k) (q ∷ ps) p e has =
    let next : n + 1 + k ≡ n + suc k = omega arith in
    rw (map-append (book_file number) (book_at n q) (books_from (n + 1) ps))
    (subst (λ i. Contains (book_files number (book_at n q) ++ book_files number (books_from (n + 1) ps))
    (book_file number (named i p))) next
    (Contains-append_right (book_files number (book_at n q)) _ _ (among number (n + 1) k ps p e has)))

module _ (seed number : ℕ) (earlier : List AskedView) (step : Meaning) where
  abbrev ps : List Problem
  ps = asked (questions_of step)

  pub booked : HasABookForEach seed number earlier step
  booked k p at has =
      let own =
      rw (let z : 1 + k ≡ k + 1 = omega arith in z) at (among number 1 k _ p at has) in
      Contains-append_left _ _ _ (Contains-append_left _ _ _ own)

  -- where the budget does not end, each question that is asked is finished
  cut : (p : Problem) (left : Option Found) (reached budget : ℕ)
      → status_of (cut_short p left reached budget).ending ≡ 2
  cut p None reached budget = refl
  cut p (Some found) reached budget = refl

  by_end : (last : Problem) (end : Option Turn)
      → (status_of (conclusion_by last ps step.settings.budget end).ending ≡ 2 → ⊥) → finished_before ps end ≡ ps
  by_end last None below = refl
  by_end last (Some turn) below =
      absurd (below
      (cut turn.question (left_at step.settings.budget turn) (reached_at step.settings.budget turn)
      step.settings.budget))

  all_finished : (status_of (outcome_of step).ending ≡ 2 → ⊥)
      → finished (questions_of step) step.settings.budget ≡ ps
  unfolding conclusion_of finished
  all_finished below =
      by_end (last_of (questions_of step).first ps) _ below

  asked_booked : (status_of (outcome_of step).ending ≡ 2 → ⊥) → (k : ℕ) (p : Problem) → slice_get ps k ≡ Some p
      → has_book p ≡ true
      → Contains (step_output seed number earlier step).events
      (WholeFile (book_name number (k + 1)) (book_text (book_for p)))
  asked_booked below k p at has = booked k p (ap (λ l. slice_get l k) (all_finished below) ∙ at) has

  has_unanswered : (p : Problem) → answer p ≡ None → has_book p ≡ true
  has_unanswered p is = or_right p.least _ (ap (λ o. not (is_some o)) is)

  pub none_booked : (step_output seed number earlier step).status ≡ 1 → HasABookForEachAsked seed number earlier step
  none_booked one k p at =
      let none = none_at_one (outcome_of step).ending one in
      let own : answer p ≡ None =
      rw (← (get_or_from_slice_get ps k p p at))
      (All-get_or (λ p. answer p ≡ None) ps k p (slice_get_within ps k p at)
      (none-of (questions_of step) step.settings.budget none.0 none.1)) in
      asked_booked (λ two. omega arith) k p at (has_unanswered p own)

  -- the book of a question that is behind a claim
  module _ (d : Dimensions) (wanted : Requirement) (own : Option (List ℕ)) (q : IsAsked step d wanted own)
      (below : status_of (outcome_of step).ending ≡ 2 → ⊥) where
    has_book_of : (beat : Option (List ℕ)) → beat_of q.question ≡ beat → has_book q.question ≡ true
        → HasBook seed number earlier step d wanted beat
    has_book_of beat is has = record {
      question = q.place + 1;
      book = book_for q.question;
      among = asked_booked below q.place q.question q.asked_at has;
      about =
          cc (requirement_back q.question.requirement);
      pattern = is;
    }

  one_way : (b : Bool) → ◌≡◌ {A = Option (List ℕ)} (if b then None else None) None
  one_way true = refl
  one_way false = refl

  no_pattern : (p : Problem) → answer p ≡ None → beat_of p ≡ None
  no_pattern p none =
      cc (one_way p.least)

  with_pattern : (p : Problem) (rows : List ℕ) → p.least ≡ true → answer p ≡ Some rows
      → beat_of p ≡ Some (pattern_of p.dimensions rows)
  with_pattern p rows least is =
      cc (cond-true p.least (Some (pattern_of p.dimensions rows)) None least)

  unanswered_book : (d : Dimensions) (wanted : Requirement) → IsAsked step d wanted None
      → (status_of (outcome_of step).ending ≡ 2 → ⊥)
      → HasBook seed number earlier step d wanted None
  unanswered_book d wanted q below =
      has_book_of d wanted None q below None (no_pattern q.question q.answer_is)
      (has_unanswered q.question q.answer_is)

  -- a design is no ended budget
  design_below : (rows : List ℕ) (count : ℕ) → (outcome_of step).ending ≡ Design rows count
      → status_of (outcome_of step).ending ≡ 2 → ⊥
  design_below rows count e two = omega (arith, ap status_of e)

  module _ (valid : IsValidStep step) where
    abbrev d : Dimensions
    d = (outcome_of step).dimensions

    pub highest_book : HighestHasBook seed number earlier step
    highest_book rows count kind plain without e = elim (highest_asked step valid rows count kind plain without e) [
      | inl full ↦ inl full
      | inr next ↦ inr (unanswered_book d _ next (design_below rows count e))
    ]

    pub highest_book_in_blocks : HighestInBlocksHasBook seed number earlier step
    highest_book_in_blocks rows count kind some e = elim (next_in_blocks_asked step valid rows count kind some e) [
      | inl top ↦ inl top
      | inr next ↦ inr (unanswered_book d _ next (design_below rows count e))
    ]

    pub least_book : LeastPatternHasBook seed number earlier step
    least_book rows count least e =
        let q = least_asked step valid rows count least e in
        let own = q.least ∙ least in
        has_book_of d step.requirement (Some rows) q (design_below rows count e) (Some (pattern_of d rows))
        (with_pattern q.question rows own q.answer_is ∙ ap (λ d. Some (pattern_of d rows)) q.dimensions)
        (ap (λ b. b || not (is_some (answer q.question))) own)

    pub size_books : LeastSizeHasBooks seed number earlier step
    size_books rows count other e h less =
        unanswered_book other step.requirement (smaller_asked step valid rows count other e h less)
        (design_below rows count e)

    pub block_book : MostBlocksHasBook seed number earlier step
    block_book rows count most e =
        unanswered_book _ step.requirement (more_blocks_asked step valid rows count most e)
        (design_below rows count e)

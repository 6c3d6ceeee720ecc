-- How the asking goes on from one question to the next.
use Rattle.std.proofs.Common.{Bool, ℕ, ◌≡◌, ◌<◌, ◌≤◌, ◌+◌, ◌-◌, true, false, List, [], ◌∷◌, ◌++◌, map, length}
use Rattle.std.proofs.Common.{Option, ◌⊎◌}
use Rattle.std.proofs.Common.{None, suc, refl, sym, ap, ◌∙◌, arith, inl, inr, append-nil, append_assoc, ap₂}
use Rattle.std.proofs.Common.{Some, lt-ltb, le-ltb}
use Rattle.std.specs.Prelude.{find, if◌then◌else◌}
use Rattle.std.specs.List.{range_with_len}
use Rattle.std.proofs.lemmas.Bool.{cases_Bool, cond-true, cond-false, both_ways}
use Rattle.std.proofs.lemmas.List.FromFn.{length-map-range_with_len, map-range_with_len_more}
use Rattle.fx_designs.specs.Problems.{Problem, Requirement, AtResolution, ForEffects}
use Rattle.fx_demands.specs.declared.forbidden_list.ForbiddenVector.{ForbiddenVector}
use Rattle.fx_search.specs.FactorRows.{AreForbidden}
use Rattle.fx_designs.specs.Answers.{answer}
use Rattle.fx_designs.specs.Nodes.{nodes}
use Rattle.fx_statements.specs.Steps.{Meaning}
use Rattle.fx_statements.specs.Questions.{Found, asked, conclusion_by, conclusion_of, found_by, highest, is_last}
use Rattle.fx_statements.specs.Questions.{last_found, last_of, lowest, nodes_of, outcome_of, passes, question_for}
use Rattle.fx_statements.specs.Questions.{questions_of}
use Rattle.fx_statements.specs.Questions.{turns, until, up_to}
use Rattle.fx_statements.proofs.Concluded.{nodes_more}
use Rattle.fx_vectors.specs.declared.book.NamedBook.{NamedBook}
use Rattle.fx_answer.specs.Books.{book_at, books_from, books_of, finished, finished_before}
use Rattle.fx_answer.specs.Asking.{IsTurnOf, asked_from, questions_below}

-- effects are demanded by all questions of a step, or by none
same_effects : (seeks : Bool) (requirement : Requirement) (n k : ℕ) (estimate besides : List ℕ)
    → (if seeks then AtResolution k else requirement) ≡ ForEffects estimate besides
    → (if seeks then AtResolution n else requirement) ≡ ForEffects estimate besides
same_effects true requirement n k estimate besides is =
    absurd (cc is)
same_effects false requirement n k estimate besides is = is

-- so they have the same forbidden vectors
pub same_words : (step : Meaning) (n k : ℕ) (words : List ForbiddenVector) → AreForbidden (question_for step n) words
    → AreForbidden (question_for step k) words
same_words step n k words h =
    record {
      all = λ estimate besides is.
          h.all estimate besides (same_effects _ step.requirement n k estimate besides is);
    }

-- and its answer is the last, if it has one
pub found_more : (earlier : Option Found) (ps : List Problem) (p : Problem)
    → last_found earlier (ps ++ p ∷ []) ≡ found_by (last_found earlier ps) p (answer p)
found_more earlier [] p = refl
found_more earlier (x ∷ ps) p = found_more (found_by earlier x (answer x)) ps p

-- the last of some questions and one more
last_of_more : (q : Problem) (ps : List Problem) (p : Problem) → last_of q (ps ++ p ∷ []) ≡ p
last_of_more q [] p = refl
last_of_more q (x ∷ ps) p = last_of_more x ps p

-- no question is below the lowest number
pub none_below : (step : Meaning) → questions_below step (lowest step step.settings.size) ≡ []
none_below step =
    let low = lowest step step.settings.size in
    ap (λ k. map (question_for step) (range_with_len low k)) (let e : low - low ≡ 0 = omega arith in e)

-- the first question
pub first_turn : (step : Meaning) → lowest step step.settings.size ≤ highest step step.settings.size
    → IsTurnOf step (lowest step step.settings.size)
first_turn step some = record {
  low = omega arith;
  high = some;
  all = ap (λ ps. ps ++ asked_from step (lowest step step.settings.size)) (sym (none_below step));
  end =
      ap (λ ps. find (passes step.settings.budget) (turns ps (asked_from step (lowest step step.settings.size))))
      (sym (none_below step));
}

-- the question for n, whose turn it is
module _ (step : Meaning) (n : ℕ) (turn : IsTurnOf step n) where
  abbrev p : Problem
  p = question_for step n

  abbrev below : List Problem
  below = questions_below step n

  abbrev budget : ℕ
  budget = step.settings.budget

  abbrev last : ℕ
  last = highest step step.settings.size

  abbrev ends : Problem → Bool
  ends = is_last (until step.settings.size)

  -- it is the next of those below
  pub below_more : questions_below step (n + 1) ≡ below ++ p ∷ []
  below_more =
      let low = lowest step step.settings.size in
      let from = turn.low in
      ap (λ k. map (question_for step) (range_with_len low k)) (let e : n + 1 - low ≡ n - low + 1 = omega arith in e)
      ∙ map-range_with_len_more (question_for step) low (n - low) n (omega arith)

  -- the budget ends in it
  module _ (more : budget < nodes_of below + length (nodes p)) where
    ended : find (passes budget) (turns [] (asked (questions_of step)))
        ≡ Some (record { earlier = below; question = p })
    ended = turn.end ∙ cond-true _ _ _ (lt-ltb budget _ more)

    pub cut : outcome_of step ≡ conclusion_by p below budget (Some (record { earlier = below; question = p }))
    unfolding conclusion_of
    cut =
        let ps = asked (questions_of step) in
        ap (conclusion_by (last_of (questions_of step).first ps) ps budget) ended

    pub cut_books : books_of step ≡ books_from 1 below
    unfolding finished
    cut_books = ap (λ end. books_from 1 (finished_before (asked (questions_of step)) end)) ended

  -- it is finished
  module _ (few : nodes_of (questions_below step (n + 1)) ≤ budget) where
    within : nodes_of below + length (nodes p) ≤ budget
    within = omega (arith, ap nodes_of below_more, nodes_more below p)

    passed_by : (rest : List Problem)
        → find (passes budget) (turns below (p ∷ rest))
        ≡ find (passes budget) (turns (questions_below step (n + 1)) rest)
    passed_by rest =
        cond-false _ _ _ (le-ltb budget _ within) ∙ ap (λ ps. find (passes budget) (turns ps rest)) (sym below_more)

    -- and the last that is asked
    module _ (is : (n ≡ last) ⊎ (ends p ≡ true)) where
      alone : asked_from step n ≡ p ∷ []
      alone = elim (cases_Bool (ends p)) [
        | inl over ↦ ap (λ rest. p ∷ rest) (cond-true _ _ _ over)
        | inr on ↦
            let same : n ≡ last = elim is [ inl same ↦ same | inr over ↦ absurd (both_ways _ on over) ] in
            ap (λ rest. p ∷ rest)
            (cond-false _ _ _ on
            ∙ ap (λ k. up_to ends (map (question_for step) (range_with_len (n + 1) k)))
            (let none : last - n ≡ 0 = omega arith in none))
      ]

      all_asked : asked (questions_of step) ≡ questions_below step (n + 1)
      all_asked = turn.all ∙ (ap (λ ps. below ++ ps) alone ∙ sym below_more)

      none_passes : find (passes budget) (turns [] (asked (questions_of step))) ≡ None
      none_passes = turn.end ∙ (ap (λ ps. find (passes budget) (turns below ps)) alone ∙ passed_by [])

      pub whole : outcome_of step ≡ conclusion_by p (questions_below step (n + 1)) budget None
      unfolding conclusion_of
      whole =
          let first = (questions_of step).first in
          ap (conclusion_by (last_of first (asked (questions_of step))) (asked (questions_of step)) budget) none_passes
          ∙ ap₂ (λ q ps. conclusion_by q ps budget None)
          (ap (last_of first) (all_asked ∙ below_more) ∙ last_of_more first below p) all_asked

      pub whole_books : books_of step ≡ books_from 1 (questions_below step (n + 1))
      unfolding finished
      whole_books =
          ap (λ end. books_from 1 (finished_before (asked (questions_of step)) end)) none_passes
          ∙ ap (books_from 1) all_asked

    -- and the next one is asked
    module _ (high : n < last) (on : ends p ≡ false) where
      next : asked_from step n ≡ p ∷ asked_from step (n + 1)
      next =
          ap (λ rest. p ∷ rest)
          (cond-false _ _ _ on
          ∙ ap (λ k. up_to ends (map (question_for step) (range_with_len (n + 1) k)))
          (let e : last - n ≡ suc (last - (n + 1)) = omega arith in e))

      pub next_turn : IsTurnOf step (n + 1)
      next_turn =
          let from = turn.low in
          let rest = asked_from step (n + 1) in
          record {
            low = omega arith;
            high = omega arith;
            all =
                turn.all
                ∙ (ap (λ ps. below ++ ps) next
                ∙ (sym (append_assoc below (p ∷ []) rest) ∙ ap (λ ps. ps ++ rest) (sym below_more)));
            end = turn.end ∙ (ap (λ ps. find (passes budget) (turns below ps)) next ∙ passed_by rest);
          }

-- the book of one question more
pub books_more : (number : ℕ) (ps : List Problem) (p : Problem)
    → books_from number (ps ++ p ∷ []) ≡ books_from number ps ++ book_at (number + length ps) p
books_more number [] p =
    append-nil (book_at number p) ∙ ap (λ n. book_at n p) (let e : number ≡ number + 0 = omega arith in e)
books_more number (x ∷ ps) p =
    ap (λ l. book_at number x ++ l) (books_more (number + 1) ps p)
    ∙ (ap (λ n. book_at number x ++ (books_from (number + 1) ps ++ book_at n p))
    (let e : number + 1 + length ps ≡ number + length (x ∷ ps) = omega arith in e)
    ∙ sym (append_assoc (book_at number x) (books_from (number + 1) ps) (book_at (number + length (x ∷ ps)) p)))

-- and so many are below n
pub books_so_far : (step : Meaning) (n : ℕ) → IsTurnOf step n → (q : Problem) (number : ℕ) (old now : List NamedBook)
    → q ≡ question_for step n → number ≡ 1 + (n - lowest step step.settings.size)
    → old ≡ books_from 1 (questions_below step n) → now ≡ old ++ book_at number q
    → now ≡ books_from 1 (questions_below step (n + 1))
books_so_far step n turn q number old now same is before e =
    let low = lowest step step.settings.size in
    let below = questions_below step n in
    let long = length-map-range_with_len (question_for step) low (n - low) in
    e
    ∙ (ap (λ l. l ++ book_at number q) before
    ∙ (ap₂ (λ k q. books_from 1 below ++ book_at k q)
    (let k : number ≡ 1 + length below = omega (arith, is, long) in k) same
    ∙ (sym (books_more 1 below (question_for step n)) ∙ ap (books_from 1) (sym (below_more step n turn)))))

-- What the answer of a question adds to what was found before.
use Rattle.std.proofs.Common.{ℕ, ◌≡◌, ◌≤◌, ◌+◌, ◌-◌, ◌&&◌, ◌||◌, arith, Bool, true, false, length, filter, List, []}
use Rattle.std.proofs.Common.{◌∷◌, ◌++◌}
use Rattle.std.proofs.Common.{Option, Some, None, refl, sym, ap, ◌∙◌, subst, eqb-true}
use Rattle.std.specs.Prelude.{not}
use Rattle.std.specs.List.{list_all}
use Rattle.std.specs.Option.{option_or}
use Rattle.std.proofs.lemmas.Bool.{cond-true, cond-false, and_parts}
use Rattle.fx_designs.specs.Answers.{answer, designs, is_design, is_of_least_pattern, prefixes}
use Rattle.fx_designs.specs.Patterns.{pattern_of, is_less}
use Rattle.fx_designs.specs.Nodes.{is_complete_allowed}
use Rattle.fx_designs.specs.Jobs.{best_of, best_before, carried, first_least}
use Rattle.fx_designs.specs.Problems.{Problem}
use Rattle.fx_laws.proofs.Order.{found_in_filter}
use Rattle.fx_vectors.specs.declared.question.Question.{Question}
use Rattle.fx_vectors.specs.Shape.{dimensions_of}
use Rattle.fx_vectors.specs.Matrix.{MatrixView}
use Rattle.fx_vectors.specs.Question.{problem_of, requirement_of}
use Rattle.fx_search.specs.Standing.{best_rows, HasDimensions}
use Rattle.fx_search.proofs.Whole.{shape-same}
use Rattle.fx_statements.specs.Steps.{Meaning}
use Rattle.fx_statements.specs.Questions.{Found, found_by, last_found, lowest, nodes_of, question_for}
use Rattle.fx_statements.specs.Questions.{reached_by, resolution_wanted}
use Rattle.fx_answer.specs.Standing.{IsOf, IsShapeOf, IsWhole, StandsFor}
use Rattle.fx_vectors.specs.declared.book.NamedBook.{NamedBook}
use Rattle.fx_designs.specs.Nodes.{nodes}
use Rattle.fx_answer.specs.Asking.{HaveComeTo, IsTurnOf, questions_below}
use Rattle.fx_answer.specs.Books.{book_at}
use Rattle.fx_answer.specs.declared.answering.Finished.{Finished}
use Rattle.fx_statements.proofs.Concluded.{nodes_more}
use Rattle.fx_answer.proofs.Asking.{below_more, books_so_far, found_more}

-- the answer has a row for each factor and for each block factor
answer-whole : (p : Problem) (rows : List ℕ) → answer p ≡ Some rows → length rows ≡ p.dimensions.s + p.dimensions.t
unfolding answer designs
answer-whole p rows is =
    eqb-true _ _
    (and_parts _ _
    (found_in_filter (is_design p) (λ rows. not p.least || is_of_least_pattern p rows) (prefixes p) rows is)).0

-- and so has the matrix that is left where the budget ended
left-whole : (p : Problem) (b : Bool) → p.least ≡ b → (test : List ℕ → Bool) (rows : List ℕ)
    → best_of p test ≡ Some rows → length rows ≡ p.dimensions.s + p.dimensions.t
unfolding first_least
left-whole p false e test rows is =
    absurd (let none : ◌≡◌ {A = Option (List ℕ)} None (Some rows) = sym (cond-false p.least _ _ e) ∙ is in cc none)
left-whole p true e test rows is =
    let among = filter (λ matrix. is_complete_allowed p matrix && test matrix) (prefixes p) in
    let kept =
    found_in_filter (λ matrix. is_complete_allowed p matrix && test matrix)
    (λ rows. list_all (λ other. not (is_less (pattern_of p.dimensions other) (pattern_of p.dimensions rows))) among)
    (prefixes p) rows
    (sym (cond-true p.least _ _ e) ∙ is) in
    eqb-true _ _ (and_parts _ _ (and_parts _ _ kept).0).0

carried-whole : (p : Problem) (budget : ℕ) (rows : List ℕ) → carried p budget ≡ Some rows
    → length rows ≡ p.dimensions.s + p.dimensions.t
unfolding carried best_before
carried-whole p budget rows is =
    left-whole p p.least refl _ rows is

-- the matrix of a question's answer
module _ (question : Question) (matrix : MatrixView) (is : answer (problem_of question) ≡ Some matrix.rows)
    (sized : matrix.shape ≡ question.shape) where
  pub found-whole : IsWhole (Some matrix)
  found-whole =
      cc (answer-whole _ matrix.rows is)

  pub found-of : (step : Meaning) → IsShapeOf step question.shape → IsOf step (Some matrix)
  found-of step of = subst (IsShapeOf step) (sym sized) of

  pub found-stands : (p : Problem) → problem_of question ≡ p → (earlier : List Problem)
      → StandsFor (Some matrix) (last_found None (earlier ++ p ∷ []))
  found-stands p same earlier =
      subst (StandsFor (Some matrix))
      (sym (found_more None earlier p ∙ ap (found_by (last_found None earlier) p) (ap answer (sym same) ∙ is)))
      (refl, ap dimensions_of sized ∙ ap (λ p. p.dimensions) same)

  -- and its resolution is reached
  pub found-reached : (p : Problem) → problem_of question ≡ p → (earlier : List Problem)
      → resolution_wanted (requirement_of question.demands) ≡ reached_by (last_found None (earlier ++ p ∷ []))
  found-reached p same earlier =
      cc (found_more None earlier p, (ap answer (sym same) ∙ is))

-- a question without answer adds nothing
pub nothing-stands : (p : Problem) (found : Option MatrixView) (earlier : List Problem) → answer p ≡ None
    → StandsFor found (last_found None earlier)
    → StandsFor found (last_found None (earlier ++ p ∷ []))
nothing-stands p found earlier is stands =
    subst (StandsFor found) (sym (found_more None earlier p ∙ ap (found_by (last_found None earlier) p) is)) stands

pub nothing-reached : (p : Problem) (earlier : List Problem) → answer p ≡ None
    → reached_by (last_found None earlier) ≡ reached_by (last_found None (earlier ++ p ∷ []))
nothing-reached p earlier is =
    cc (found_more None earlier p)

-- what is left where the budget ended in a question
module _ (question : Question) (budget : ℕ) where
  pub left-is-whole : (best found : Option MatrixView) → best_rows best ≡ carried (problem_of question) budget
      → HasDimensions (dimensions_of question.shape) best → IsWhole found
      → IsWhole (option_or best found)
  left-is-whole None found is sized whole = whole
  left-is-whole (Some matrix) found is sized whole =
      cc (carried-whole _ budget matrix.rows (sym is), shape-same matrix.shape question.shape sized)

  pub left-of : (step : Meaning) (best found : Option MatrixView) → HasDimensions (dimensions_of question.shape) best
      → IsShapeOf step question.shape → IsOf step found → IsOf step (option_or best found)
  left-of step None found sized shape of = of
  left-of step (Some matrix) found sized shape of =
      subst (IsShapeOf step) (sym (shape-same matrix.shape question.shape sized)) shape

  pub left-stands : (best found : Option MatrixView) (before : Option Found) (p : Problem)
      → best_rows best ≡ carried (problem_of question) budget → HasDimensions (dimensions_of question.shape) best
      → problem_of question ≡ p → StandsFor found before
      → StandsFor (option_or best found) (found_by before p (carried p budget))
  left-stands None found before p is sized same stands =
      rw (← (is ∙ ap (λ p. carried p budget) same)) stands
  left-stands (Some matrix) found before p is sized same stands =
      rw (← (is ∙ ap (λ p. carried p budget) same)) (refl, sized ∙ ap (λ p. p.dimensions) same)

-- What the questions of a step have come to where that for n is finished too:
module _ (step : Meaning) (n : ℕ) (turn : IsTurnOf step n) (question : Question)
    (same : problem_of question ≡ question_for step n) (before : Finished)
    (come : HaveComeTo step (questions_below step n) before) (count number : ℕ) (books : List NamedBook)
    (counted : count ≡ length (nodes (problem_of question))) (few : count ≤ step.settings.budget - before.nodes)
    (numbered : number ≡ 1 + (n - lowest step step.settings.size))
    (booked : books ≡ before.books ++ book_at number (problem_of question)) where
  abbrev now : Option MatrixView → ℕ → Finished
  now found reached = record { found = found; reached = reached; nodes = before.nodes + count; books = books }

  come_further : (found : Option MatrixView) (reached : ℕ)
      → (let ps = questions_below step n ++ question_for step n ∷ [] in
      StandsFor found (last_found None ps) × (reached ≡ reached_by (last_found None ps)))
      → IsOf step found → IsWhole found
      → HaveComeTo step (questions_below step (n + 1)) (now found reached)
  come_further found reached h of whole =
      let is = rw (← (below_more step n turn)) at h in
      let one = ap (λ p. length (nodes p)) same in
      let sum = ap nodes_of (below_more step n turn) in
      let most = come.within in
      record {
        nodes = omega (arith, come.nodes, counted, one, sum, nodes_more (questions_below step n) (question_for step n));
        within = omega arith;
        found = is.0;
        of_step = of;
        whole = whole;
        reached = is.1;
        books = books_so_far step n turn _ number before.books books same numbered come.books booked;
      }

  -- it has this answer
  pub with_matrix : (matrix : MatrixView) (reached : ℕ) → answer (problem_of question) ≡ Some matrix.rows
      → matrix.shape ≡ question.shape → IsShapeOf step question.shape
      → reached ≡ resolution_wanted (requirement_of question.demands)
      → HaveComeTo step (questions_below step (n + 1)) (now (Some matrix) reached)
  with_matrix matrix reached is sized shape wanted =
      come_further (Some matrix) reached (
        found-stands question matrix is sized _ same (questions_below step n),
        wanted ∙ found-reached question matrix is sized _ same (questions_below step n),
      ) (found-of question matrix is sized step shape) (found-whole question matrix is sized)

  -- it has none
  pub with_none : answer (problem_of question) ≡ None
      → HaveComeTo step (questions_below step (n + 1)) (now before.found before.reached)
  with_none is =
      let none = ap answer (sym same) ∙ is in
      come_further before.found before.reached (
        nothing-stands _ before.found (questions_below step n) none come.found,
        come.reached ∙ nothing-reached _ (questions_below step n) none,
      ) come.of_step come.whole

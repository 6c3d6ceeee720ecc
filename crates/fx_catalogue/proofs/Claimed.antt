-- What a line claims of all rule matrices.
use Rattle.std.proofs.Common.{ℕ, ◌≡◌, ◌<◌, ◌≤◌, ◌+◌, ◌↔◌, true, false, List, length, Option, Some, None, refl, sym}
use Rattle.std.proofs.Common.{subst}
use Rattle.std.proofs.Common.{◌∙◌, ap, arith, inl, inr, is_some}
use Rattle.std.specs.Option.{option_map}
use Rattle.std.specs.Prelude.{nat_lt}
use Rattle.std.proofs.lemmas.Bool.{cases_Bool, cond-true, cond-false, and_parts, lt-ltb, ltb-true, eqb-true}
use Rattle.fx_designs.specs.Galois.{IsField}
use Rattle.fx_designs.specs.Matrices.{NoneMeets}
use Rattle.fx_designs.specs.Problems.{Problem, AtResolution}
use Rattle.fx_designs.specs.Patterns.{pattern_of}
use Rattle.fx_designs.specs.Answers.{answer}
use Rattle.fx_designs.specs.Nodes.{marks, nodes}
use Rattle.fx_laws.proofs.Tables.{is_order-field}
use Rattle.fx_tree.proofs.Firsts.{answer-is-first}
use Rattle.fx_reduction.proofs.LeastPattern.{least-of_all, no_answer}
use Rattle.fx_reduction.proofs.NoDesign.{none-exactly}
use Rattle.fx_vectors.specs.declared.shape.Shape.{Shape}
use Rattle.fx_vectors.specs.Shape.{dimensions_of, IsShape}
use Rattle.fx_book.specs.QuestionBooks.{beat_of, book_for, head_for}
use Rattle.fx_checker.specs.Books.{IsGood}
use Rattle.fx_checker.specs.Claims.{claim_of}
use Rattle.fx_checker.proofs.Marks.{claim_over, none_good, some_good}
use Rattle.fx_catalogue.specs.declared.line.Line.TheVariants.{Nothing, Budget}
use Rattle.fx_catalogue.specs.Lines.{line_by, line_of, problem_at}
use Rattle.fx_catalogue.specs.Laws.{IsAbsent, IsLeast, Holds, head_at}
use Rattle.fx_catalogue.proofs.Answered.{within}

-- the head of the book of a line, by the answer of its question
pub head-by-answer : (shape : Shape) (found : Option (List ℕ)) → answer (problem_at shape) ≡ found
    → (book_for (problem_at shape)).head ≡ head_at shape (option_map (pattern_of (dimensions_of shape)) found)
head-by-answer shape found is = cc

module _ (shape : Shape) (hs : IsShape shape) (free : shape.t ≡ 0) where
  abbrev p : Problem
  p = problem_at shape

  field : IsField shape.q
  field = is_order-field shape.q hs.order

  some : 0 < shape.s + shape.t
  some = (let few = hs.some_factors in omega arith)

  -- the book of the question claims this, where this is the pattern to beat
  good : (beat : Option (List ℕ)) → beat_of p ≡ beat → IsGood (claim_over p (is_some beat) beat) (marks p)
      → IsGood (claim_of (head_for p)) (marks p)
  good beat is h = rw is h

  absent : answer p ≡ None → IsAbsent shape (book_for p)
  absent none = record {
    none = (none-exactly p field (omega arith)).0 ((no_answer p some).0 none);
    head_is = head-by-answer shape None none;
    good = good None (cc)
        (none_good p hs.order (omega arith, omega arith) some false none);
  }

  least : (rows : List ℕ) → answer p ≡ Some rows
      → IsLeast shape (record { shape = shape; rows = rows }) (pattern_of (dimensions_of shape) rows) (book_for p)
  least rows is =
      let parts = and_parts _ _ (answer-is-first p field some refl _ is).0 in
      record {
        of_shape = refl;
        whole = eqb-true _ _ parts.0 ∙ (let e : shape.s + shape.t ≡ shape.s = omega arith in e);
        resolution = (and_parts _ _ parts.1).1;
        pattern_is = refl;
        least = λ factors blocks matrix met.
            least-of_all p field (omega arith) rows factors blocks refl is matrix met;
        head_is = head-by-answer shape _ is;
        good = good _ (ap (option_map (pattern_of p.dimensions)) is)
            (some_good p hs.order (omega arith, omega arith) some true refl rows is);
      }

  by_answer : (budget : ℕ) (found : Option (List ℕ)) → answer p ≡ found → Holds shape budget (line_by shape found)
  by_answer budget None is = absent is
  by_answer budget (Some rows) is = least rows is

  pub holds : (budget : ℕ) → Holds shape budget (line_of shape budget)
  unfolding line_of
  holds budget =
      let count = length (nodes p) in
      elim (cases_Bool (nat_lt budget count)) [
        | inl more ↦
            subst (Holds shape budget)
            (sym (cond-true _ Budget (line_by shape (answer p)) more)) (ltb-true budget count more)
        | inr inside ↦
            subst (Holds shape budget)
            (sym (cond-false _ Budget (line_by shape (answer p)) inside))
            (by_answer budget (answer p) refl)
      ]

  pub nothing-where-none : (budget : ℕ) → length (nodes p) ≤ budget → NoneMeets (dimensions_of shape) (AtResolution 3)
      → line_of shape budget ≡ Nothing (length (nodes p)) (book_for p)
  nothing-where-none budget le none =
      sym (within shape budget None le ((no_answer p some).1 ((none-exactly p field (omega arith)).1 none)))

no_budget : (shape : Shape) (found : Option (List ℕ)) → line_by shape found ≡ Budget → ⊥
no_budget shape None e = cc
no_budget shape (Some rows) e = cc

-- a budget ends a line exactly where the nodes are more
pub budget-ends : (shape : Shape) (budget : ℕ)
    → (line_of shape budget ≡ Budget) ↔ (budget < length (nodes (problem_at shape)))
unfolding line_of
budget-ends shape budget =
    let count = length (nodes (problem_at shape)) in (
      λ e. elim (cases_Bool (nat_lt budget count)) [
        | inl more ↦ ltb-true budget count more
        | inr inside ↦
            absurd (no_budget shape _
            (sym (cond-false _ Budget (line_by shape (answer (problem_at shape))) inside) ∙ e))
      ],
      λ h. cond-true _ Budget _ (lt-ltb budget count h),
    )

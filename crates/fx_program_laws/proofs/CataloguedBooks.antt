-- The books of a catalogue are read from their texts as they are, and are accepted.
use Rattle.std.proofs.Common.{ℕ, ◌≡◌, ◌≤◌, ◌-◌, ◌+◌, List, length, Option, Some, None, All, refl, sym, subst}
use Rattle.std.proofs.Common.{arith, inl, inr}
use Rattle.std.specs.Prelude.{nat_lt}
use Rattle.std.proofs.lemmas.Bool.{cases_Bool, cond-true, cond-false, ltb-false}
use Rattle.std.proofs.lemmas.List.Elements.{All-from_recursion}
use Rattle.fx_designs.specs.Answers.{answer}
use Rattle.fx_designs.specs.Nodes.{nodes}
use Rattle.fx_vectors.specs.declared.shape.Shape.{Shape}
use Rattle.fx_vectors.specs.Shape.{IsShape}
use Rattle.fx_catalogue.specs.Catalogues.{Entry, entries, shape_at}
use Rattle.fx_catalogue.specs.Lines.{line_by, line_of, problem_at}
use Rattle.fx_catalogue.specs.declared.line.Line.TheVariants.{Budget}
use Rattle.fx_catalogue.proofs.Claimed.{head-by-answer}
use Rattle.fx_program.specs.CommandLine.{IsCatalogue}
use Rattle.fx_program.proofs.CatalogueClaims.{each_line}
use Rattle.fx_program.proofs.CatalogueLines.{line_shape}
use Rattle.fx_program_laws.specs.BookClaims.{HasAcceptedBook}
use Rattle.fx_program_laws.proofs.GoodBooks.{MayBeAsked, accepted_book}

module _ (shape : Shape) (shaped : IsShape shape) (free : shape.t ≡ 0) where
  may : MayBeAsked (problem_at shape)
  may = record {
    shaped = shaped;
    asked = (omega arith, omega arith);
    least = λ h. (refl, free);
    few = tt;
  }

  by_answer : (found : Option (List ℕ)) → length (nodes (problem_at shape)) ≤ 5000000
      → answer (problem_at shape) ≡ found
      → HasAcceptedBook shape (line_by shape found)
  by_answer None few is = record {
    is_accepted = accepted_book _ (may, few) shape.s refl;
    head_is = head-by-answer shape None is;
  }
  by_answer (Some rows) few is = record {
    is_accepted = accepted_book _ (may, few) shape.s refl;
    head_is = head-by-answer shape _ is;
  }

  line_accepted : (budget : ℕ) → budget ≤ 5000000 → HasAcceptedBook shape (line_of shape budget)
  unfolding line_of
  line_accepted budget few =
      let count = length (nodes (problem_at shape)) in
      let own = line_by shape (answer (problem_at shape)) in
      elim (cases_Bool (nat_lt budget count)) [
        | inl more ↦ subst (HasAcceptedBook shape) (sym (cond-true _ Budget own more)) tt
        | inr inside ↦
            subst (HasAcceptedBook shape) (sym (cond-false _ Budget own inside))
            (by_answer (answer (problem_at shape))
            (let within = ltb-false budget count inside in omega arith) refl)
      ]

pub catalogue_accepted : (q m most budget : ℕ) → IsCatalogue q m most budget
    → All (λ (e : Entry). HasAcceptedBook (shape_at q m e.factors) e.line) (entries q m most budget)
unfolding entries
catalogue_accepted q m most budget h =
    All-from_recursion _ _
    (each_line q m budget (λ e. HasAcceptedBook (shape_at q m e.factors) e.line) (most - m) (m + 1)
    (λ x from upto.
    line_accepted _ (line_shape h x (omega arith) (omega arith)) refl budget h.budget.1))

-- The status of a program: the greatest of those of its steps.
use Rattle.std.proofs.Common.{ℕ, ◌≡◌, ◌≤◌, ◌+◌, Bool, true, false, List, [], ◌∷◌, ◌++◌, Result, Ok, Err, refl, sym, ◌∙◌}
use Rattle.std.proofs.Common.{◌⊎◌, inl, inr, arith, All}
use Rattle.std.specs.Prelude.{nat_le, if◌then◌else◌}
use Rattle.std.specs.List.{Contains}
use Rattle.std.proofs.lemmas.List.Elements.{All-nil, All-cons, All-contains, All-contains_itself, All-head, All-tail}
use Rattle.fx_base.specs.Acts.{Event}
use Rattle.fx_statements.specs.Steps.{Meaning}
use Rattle.fx_program.specs.Texts.{program_in}
use Rattle.fx_program.specs.declared.text.TextFault.{TextFault}
use Rattle.fx_program.specs.Output.{Output, asked_of, in_order, program_output, step_output, step_status, worse}
use Rattle.fx_program.specs.Plans.{AskedView}
use Rattle.fx_program.specs.Claims.{EachStep, IsGreatest, SomeEndsWith, SomeHasNone}
use Rattle.fx_answer.specs.ValidSteps.{IsValidStep}
use Rattle.fx_program.proofs.AnyText.{any_text}
use Rattle.fx_program.proofs.None.{one_told}

module _ {A : Type 0} where
  head : (step : A) (steps : List A) → Contains (step ∷ steps) step
  head step steps = All-head (Contains (step ∷ steps)) step steps (All-contains_itself (step ∷ steps))

  later : (step : A) (steps : List A) (other : A) → Contains steps other → Contains (step ∷ steps) other
  later step steps other there =
      All-contains (Contains (step ∷ steps)) steps other
      (All-tail (Contains (step ∷ steps)) step steps (All-contains_itself (step ∷ steps))) there

-- the greater of two statuses is one of them, and neither is above it
one_of_both : (a b : ℕ) → (worse a b ≡ a) ⊎ (worse a b ≡ b)
one_of_both a b = go (nat_le a b)
  where
    go : (c : Bool) → ((if c then b else a) ≡ a) ⊎ ((if c then b else a) ≡ b)
    go true = inr refl
    go false = inl refl

above_both : (a b : ℕ) → (a ≤ worse a b) × (b ≤ worse a b)
above_both a b = grind (arith, worse)

-- what the steps from some one on add to a status, where that of a step does not depend on its number and on the
-- earlier OUTPUT statements
module _ {A : Type 0} (give : ℕ → List AskedView → A → Output) (asks : A → List AskedView) (status_of : A → ℕ)
    (same : (number : ℕ) (earlier : List AskedView) (step : A) → (give number earlier step).status ≡ status_of step) where
  final : ℕ → List AskedView → List Event → ℕ → List A → ℕ
  final number earlier events status steps = (in_order give asks number earlier events status steps).status

  one_more : (step : A) (steps : List A) (status : ℕ) → SomeEndsWith status_of status steps
      → SomeEndsWith status_of status (step ∷ steps)
  one_more step steps status some =
      record { step = some.step; among = later step steps some.step some.among; ends = some.ends }

  not_below : (number : ℕ) (earlier : List AskedView) (events : List Event) (status : ℕ) (steps : List A)
      → status ≤ final number earlier events status steps
  unfolding final
  not_below number earlier events status [] = omega arith
  not_below number earlier events status (step ∷ steps) =
      let given = give number earlier step in
      omega (
        arith,
        (above_both status given.status).0,
        not_below (number + 1) (earlier ++ asks step) (events ++ given.events) (worse status given.status) steps,
      )

  each_below : (number : ℕ) (earlier : List AskedView) (events : List Event) (status : ℕ) (steps : List A)
      → All (λ step. status_of step ≤ final number earlier events status steps) steps
  unfolding final
  each_below number earlier events status [] = All-nil (λ (x : A). status_of x ≤ status)
  each_below number earlier events status (step ∷ steps) =
      let given = give number earlier step in
      All-cons (λ (x : A). status_of x ≤ final number earlier events status (step ∷ steps)) step steps
      (omega (
        arith,
        same number earlier step,
        (above_both status given.status).1,
        not_below (number + 1) (earlier ++ asks step) (events ++ given.events) (worse status given.status) steps,
      ))
      (each_below (number + 1) (earlier ++ asks step) (events ++ given.events) (worse status given.status) steps)

  reached : (number : ℕ) (earlier : List AskedView) (events : List Event) (status : ℕ) (steps : List A)
      → (final number earlier events status steps ≡ status)
      ⊎ SomeEndsWith status_of (final number earlier events status steps) steps
  unfolding final
  reached number earlier events status [] = inl refl
  reached number earlier events status (step ∷ steps) =
      let given = give number earlier step in
      elim (reached (number + 1) (earlier ++ asks step) (events ++ given.events) (worse status given.status) steps) [
        | inl kept ↦ elim (one_of_both status given.status) [
          | inl before ↦ inl (kept ∙ before)
          | inr now ↦
              inr (record
              { step = step; among = head step steps; ends = sym (same number earlier step) ∙ sym now ∙ sym kept })
        ]
        | inr some ↦ inr (one_more step steps _ some)
      ]

  pub greatest_in_order : (steps : List A) → IsGreatest status_of (in_order give asks 1 [] [] 0 steps).status steps
  unfolding final
  greatest_in_order steps = record {
    each = each_below 1 [] [] 0 steps;
    some = λ above. elim (reached 1 [] [] 0 steps) [
      | inl zero ↦ absurd (omega (arith, above, zero))
      | inr some ↦ some
    ];
  }

pub is_greatest : (seed : ℕ) (steps : List Meaning) → IsGreatest step_status (program_output seed (Ok steps)).status steps
is_greatest seed steps =
    greatest_in_order (step_output seed) asked_of step_status (λ number earlier step. refl) steps

-- so that status 1 of a text says of one of its steps that there is no design at all
some_has_none : (seed : ℕ) (program : Result (List Meaning) TextFault) → EachStep IsValidStep program
    → (program_output seed program).status ≡ 1
    → SomeHasNone program
some_has_none seed (Err fault) valid one = absurd (omega (arith, one))
some_has_none seed (Ok steps) valid one =
    let some = (is_greatest seed steps).some (omega (arith, one)) in
    let ends : step_status some.step ≡ 1 = some.ends ∙ one in
    record {
      steps = steps;
      accepted = refl;
      step = some.step;
      among = some.among;
      one = ends;
      none = one_told some.step (All-contains IsValidStep steps some.step valid some.among) ends;
    }

pub none_where_one : (seed : ℕ) (text : List ℕ) → (program_output seed (program_in text)).status ≡ 1
    → SomeHasNone (program_in text)
none_where_one seed text one =
    some_has_none seed (program_in text) (any_text IsValidStep (λ step valid. valid) text) one

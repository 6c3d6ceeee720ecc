-- The design that is given is the first of the last question that has one.
use Rattle.std.proofs.Common.{ℕ, ◌≡◌, ◌<◌, ◌≤◌, ◌+◌, true, false, List, [], ◌∷◌, ◌++◌, Option, Some, None, length, All}
use Rattle.std.proofs.Common.{refl, subst, ap, ◌∙◌, arith}
use Rattle.std.specs.List.{AllByRecursion}
use Rattle.std.proofs.lemmas.List.Elements.{recursion_from_All}
use Rattle.fx_base.proofs.Lists.{each-map, each-all}
use Rattle.fx_designs.specs.Problems.{Problem}
use Rattle.fx_designs.specs.Answers.{answer}
use Rattle.fx_designs.specs.Outcomes.{Design, NoDesign}
use Rattle.fx_laws.specs.First.{IsFirstDesign}
use Rattle.fx_laws.proofs.FirstDesign.{first-answer}
use Rattle.fx_reduction.proofs.LeastPattern.{no_answer}
use Rattle.fx_tree.specs.Laws.{IsFirstOfLeastPattern}
use Rattle.fx_statements.specs.Steps.{Meaning}
use Rattle.fx_statements.specs.Questions.{Conclusion, Found, asked, concluded, found_by, last_found, last_of, lowest}
use Rattle.fx_statements.specs.Questions.{nodes_of, outcome_of, question_for, questions_of, resolution_wanted}
use Rattle.fx_statements.proofs.Concluded.{each_asked, within}
use Rattle.fx_answer.specs.StepClaims.{HasNoDesign, IsLastWithDesign}
use Rattle.fx_program_laws.proofs.Least.{first-least-answer}

module _ (step : Meaning) (some : 1 ≤ length step.factors) where
  -- a question of the step, with its least aberration and some factors
  abbrev IsOfStep : Problem → Type 0
  IsOfStep p = (p.least ≡ step.settings.least) × (0 < p.dimensions.s + p.dimensions.t)

  abbrev ps : List Problem
  ps = asked (questions_of step)

  -- the outcome with this answer
  abbrev designed : Problem → List ℕ → Conclusion
  designed p rows = record {
    dimensions = p.dimensions;
    ending = Design rows (nodes_of ps);
    reached = resolution_wanted p.requirement;
  }

  of_step : (n : ℕ) → IsOfStep (question_for step n)
  of_step n = (refl, omega arith)

  all_of_step : AllByRecursion IsOfStep ps
  all_of_step = each_asked IsOfStep _ (of_step (lowest step step.settings.size))
      (each-map IsOfStep (question_for step) _ (each-all (λ n. IsOfStep (question_for step n)) _ of_step))

  none_answer : (p : Problem) → IsOfStep p → HasNoDesign p → answer p ≡ None
  none_answer p own none = (no_answer p own.1).1 none

  none_answers : (later : List Problem) → AllByRecursion IsOfStep later → AllByRecursion HasNoDesign later
      → AllByRecursion (λ p. answer p ≡ None) later
  none_answers [] own none = tt
  none_answers (p ∷ later) own none = (none_answer p own.0 none.0, none_answers later own.1 none.1)

  stays : (earlier : Option Found) (later : List Problem) → AllByRecursion (λ p. answer p ≡ None) later
      → last_found earlier later ≡ earlier
  stays earlier [] none = refl
  stays earlier (p ∷ later) none =
      cc (stays earlier later none.1)

  last_at : (before : Option Found) (earlier later : List Problem) (p : Problem) (rows : List ℕ) → answer p ≡ Some rows
      → AllByRecursion (λ p. answer p ≡ None) later
      → last_found before (earlier ++ p ∷ later) ≡ Some (record { question = p; rows = rows })
  last_at before [] later p rows is none =
      cc (stays (Some (record { question = p; rows = rows }))
      later none)
  last_at before (x ∷ earlier) later p rows is none =
      last_at (found_by before x (answer x)) earlier later p rows is none

  behind : (earlier later : List Problem) → AllByRecursion IsOfStep (earlier ++ later) → AllByRecursion IsOfStep later
  behind [] later all = all
  behind (x ∷ earlier) later all = behind earlier later all.1

  module _ (few : nodes_of ps ≤ step.settings.budget) where
    module _ (p : Problem) (last : IsLastWithDesign ps p) where
      own : AllByRecursion IsOfStep (p ∷ last.later)
      own = behind last.earlier _ (subst (AllByRecursion IsOfStep) last.among all_of_step)

      design_is : (rows : List ℕ) → answer p ≡ Some rows
          → outcome_of step ≡ designed p rows
      design_is rows is =
          within (questions_of step) step.settings.budget few
          ∙ ap (λ found. concluded (last_of (questions_of step).first ps) found (nodes_of ps))
          (ap (last_found None) last.among
          ∙ last_at None last.earlier last.later p rows is
          (none_answers last.later own.1 (recursion_from_All HasNoDesign last.later last.none_later)))

      pub first_given : (rows : List ℕ) → step.settings.least ≡ false → IsFirstDesign p rows
          → outcome_of step ≡ designed p rows
      first_given rows plain first = design_is rows (first-answer p (cc own.0.0) own.0.1 rows first)

      pub first_least_given : (rows : List ℕ) → step.settings.least ≡ true → IsFirstOfLeastPattern p rows
          → outcome_of step ≡ designed p rows
      first_least_given rows least first = design_is rows (first-least-answer p (cc own.0.0) own.0.1 rows first)

    pub none_given : All HasNoDesign ps
        → outcome_of step
        ≡ record {
          dimensions = (last_of (questions_of step).first ps).dimensions;
          ending = NoDesign (nodes_of ps);
          reached = 0;
        }
    none_given none =
        cc (
          within _ step.settings.budget few,
          stays None ps
              (none_answers ps all_of_step (recursion_from_All HasNoDesign ps none)),
        )

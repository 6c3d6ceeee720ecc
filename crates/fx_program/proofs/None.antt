-- What the statuses of a step say: 1 that no rule matrix at all meets what it asks, 2 that its nodes pass the budget.
use Rattle.std.proofs.Common.{ℕ, ◌≡◌, ◌<◌, ◌≤◌, ◌+◌, true, List, Option, Some, None, length, take, drop, refl, sym}
use Rattle.std.proofs.Common.{subst, ap, ◌∙◌, arith, inl, inr}
use Rattle.std.proofs.lemmas.Bool.{cases_lt, both_ways}
use Rattle.std.proofs.lemmas.List.{take-append-drop}
use Rattle.fx_designs.specs.Galois.{IsField}
use Rattle.fx_designs.specs.Vectors.{vectors_of}
use Rattle.fx_designs.specs.Runs.{runs_of}
use Rattle.fx_designs.specs.Problems.{Dimensions, Problem, Requirement}
use Rattle.fx_designs.specs.Demands.{do_runs_meet, is_met}
use Rattle.fx_designs.specs.Outcomes.{Ending, Design, NoDesign, BudgetEnded}
use Rattle.fx_designs.specs.Matrices.{NoneMeets}
use Rattle.fx_reduction.proofs.NoDesign.{named_matrix}
use Rattle.fx_statements.specs.Steps.{Meaning}
use Rattle.fx_statements.specs.Questions.{Conclusion, Found, asked, concluded, cut_short, last_found, last_of, left_at}
use Rattle.fx_statements.specs.Questions.{nodes_of, outcome_of, questions_of, reached_at}
use Rattle.fx_statements.proofs.Concluded.{passed, within}
use Rattle.fx_program.specs.Statuses.{status_of}
use Rattle.fx_answer.specs.StepClaims.{Allows, rows_in}
use Rattle.fx_answer.specs.ValidSteps.{IsValidStep}
use Rattle.fx_answer.proofs.Best.{field, none_at_all, what_it_asks}

pub none_at_one : (ending : Ending) → status_of ending ≡ 1 → (count : ℕ) × (ending ≡ NoDesign count)
none_at_one (Design rows count) e = absurd (omega (arith, e))
none_at_one (NoDesign count) e = (count, refl)
none_at_one (BudgetEnded left budget) e = absurd (omega (arith, e))

-- rows that meet a requirement are those of a rule matrix that does
some_meets : (d : Dimensions) (f : IsField d.q) (wanted : Requirement) (rows : List ℕ) → length rows ≡ d.s + d.t
    → is_met d wanted rows ≡ true
    → NoneMeets d wanted → ⊥
unfolding is_met
some_meets d f wanted rows len met none =
    let rules : List (List ℕ) = vectors_of d.q d.m rows in
    both_ways _ (none (take d.s rules) (drop d.s rules) (named_matrix d f wanted rows len))
    (subst (λ v. do_runs_meet d wanted (runs_of d.q d.m v) ≡ true) (sym (take-append-drop d.s rules)) met)

module _ (step : Meaning) where
  abbrev ps : List Problem
  ps = asked (questions_of step)

  abbrev budget : ℕ
  budget = step.settings.budget

  cut : (p : Problem) (left : Option Found) (reached : ℕ) → status_of (cut_short p left reached budget).ending ≡ 2
  cut p None reached = refl
  cut p (Some found) reached = refl

  not_cut : (p : Problem) (found : Option Found) (count : ℕ) → status_of (concluded p found count).ending ≡ 2 → ⊥
  not_cut p None count e = omega (arith, e)
  not_cut p (Some found) count e = omega (arith, e)

  pub two_told : status_of (outcome_of step).ending ≡ 2 → budget < nodes_of ps
  two_told two = elim (cases_lt budget (nodes_of ps)) [
    | inl more ↦ more
    | inr few ↦ absurd (not_cut (last_of (questions_of step).first ps) (last_found None ps) (nodes_of ps)
        (sym (ap (λ (c : Conclusion). status_of c.ending) (within (questions_of step) budget few)) ∙ two))
  ]

  pub two_comes : budget < nodes_of ps → status_of (outcome_of step).ending ≡ 2
  two_comes more =
      let end = passed (questions_of step) budget more in
      ap (λ (c : Conclusion). status_of c.ending) end.1 ∙ cut end.0.question (left_at budget end.0)
      (reached_at budget end.0)

  module _ (valid : IsValidStep step) where
    pub one_told : status_of (outcome_of step).ending ≡ 1 → (d : Dimensions) → Allows step d
        → NoneMeets d step.requirement
    one_told one d h = (let none = none_at_one (outcome_of step).ending one in none_at_all step valid none.0 d none.1 h)

    by_found : (p : Problem) (found : Option Found) (count : ℕ) → outcome_of step ≡ concluded p found count
        → ((d : Dimensions) → Allows step d → NoneMeets d step.requirement) → status_of (outcome_of step).ending ≡ 1
    by_found p None count is none = ap (λ (c : Conclusion). status_of c.ending) is
    by_found p (Some found) count is none =
        let d : Dimensions = (outcome_of step).dimensions in
        let own = what_it_asks step valid found.rows (ap (λ (c : Conclusion). rows_in c.ending) is) in
        let f : IsField d.q = subst IsField (sym own.allowed.levels) (field step valid) in
        absurd (some_meets d f step.requirement found.rows own.whole own.met (none d own.allowed))

    pub one_comes : nodes_of ps ≤ budget → ((d : Dimensions) → Allows step d → NoneMeets d step.requirement)
        → status_of (outcome_of step).ending ≡ 1
    one_comes few none =
        by_found (last_of (questions_of step).first ps) (last_found None ps) (nodes_of ps)
        (within (questions_of step) budget few) none

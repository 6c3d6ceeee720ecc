-- A matrix that is printed is canonical, so its rules give the levels.
use Rattle.std.proofs.Common.{ℕ, ◌≡◌, true, List, Some, sym, subst, inl, inr}
use Rattle.std.proofs.lemmas.Bool.{and_parts}
use Rattle.fx_designs.specs.Galois.{IsField}
use Rattle.fx_designs.specs.Problems.{Problem, Requirement}
use Rattle.fx_designs.specs.Canonical.{is_canonical}
use Rattle.fx_reduction.proofs.LeastPattern.{answer-design}
use Rattle.fx_tree.proofs.RuleLevels.{combinations}
use Rattle.fx_alias.proofs.RuleLines.{its_rule}
use Rattle.fx_statements.specs.Questions.{outcome_of}
use Rattle.fx_statements.specs.Steps.{Meaning}
use Rattle.fx_statements.proofs.Concluded.{each-of_step}
use Rattle.fx_answer.specs.StepClaims.{rows_in}
use Rattle.fx_answer.specs.ValidSteps.{IsValidStep}
use Rattle.fx_answer.proofs.Best.{field, what_it_asks}
use Rattle.fx_answer.proofs.Left.{IsLeftOf, carried_allowed, left-of}
use Rattle.fx_program_laws.specs.PrintedRules.{HasRulesThatGiveTheLevels, RulesGiveTheLevels}
use Rattle.fx_program_laws.proofs.Listed.{of_ending}

canonical : (p : Problem) (rows : List ℕ) → IsLeftOf p rows → is_canonical p.dimensions p.requirement rows ≡ true
canonical p rows left = elim left [
  | inl is ↦ (and_parts _ _ (and_parts _ _ (answer-design p rows is)).1).0
  | inr own ↦ (and_parts _ _ (and_parts _ _ (carried_allowed p own.0 rows own.1)).1).0
]

-- the matrix that is listed is canonical
pub canonical_listed : (step : Meaning) (rows : List ℕ) → rows_in (outcome_of step).ending ≡ Some rows
    → (wanted : Requirement) × (is_canonical (outcome_of step).dimensions wanted rows ≡ true)
canonical_listed step rows e =
    let each = each-of_step step in
    let own = left-of _ _ step.settings.budget rows each.0 each.1 e in (
      own.question.requirement,
      rw own.dimensions (canonical own.question rows own.left),
    )

rules_give : (step : Meaning) → IsValidStep step → (rows : List ℕ) → rows_in (outcome_of step).ending ≡ Some rows
    → RulesGiveTheLevels step.factors (outcome_of step).dimensions rows
rules_give step valid rows e =
    let asked = what_it_asks step valid rows e in
    let d = (outcome_of step).dimensions in
    let listed = canonical_listed step rows e in
    let f = subst IsField (sym asked.allowed.levels) (field step valid) in
    record {
      rules = λ k low. its_rule d f listed.0 step.factors rows k listed.1 asked.whole (cc) low;
      factorial = λ levels h. combinations d f listed.0 rows levels listed.1 h;
    }

pub printed : (step : Meaning) → IsValidStep step → HasRulesThatGiveTheLevels step
printed step valid matrix e =
    of_ending (RulesGiveTheLevels step.factors) (outcome_of step).dimensions (outcome_of step).ending matrix
    (rules_give step valid) e

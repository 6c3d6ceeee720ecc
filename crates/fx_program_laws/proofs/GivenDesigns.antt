-- The matrix of each step of a text with rules has the shape for which the step asks, so its rules give the levels.
use Rattle.std.proofs.Common.{ℕ, ◌≡◌, ◌≤◌, max, Bool, true, false, List, [], ◌∷◌, map, length}
use Rattle.std.proofs.Common.{Result, Ok, Err, refl, subst, arith}
use Rattle.std.specs.Prelude.{◌||◌, if◌then◌else◌}
use Rattle.std.specs.List.{AllByRecursion}
use Rattle.std.proofs.lemmas.List.Elements.{All-from_recursion, recursion_from_All}
use Rattle.std.proofs.lemmas.Result.{IfOk-at_ok}
use Rattle.fx_laws.proofs.Tables.{is_order-field}
use Rattle.fx_vectors.specs.Shape.{IsShape, dimensions_of}
use Rattle.fx_vectors.specs.declared.shape.Shape.{Shape}
use Rattle.fx_alias.proofs.RuleLines.{with_level}
use Rattle.fx_settings.specs.declared.settings.Size.{Size}
use Rattle.fx_settings.specs.declared.settings.Size.TheVariants.{Runs, Minimum}
use Rattle.fx_settings.specs.Valid.{has_most}
use Rattle.fx_statements.specs.Steps.{Meaning}
use Rattle.fx_statements.specs.Questions.{highest, lowest}
use Rattle.fx_answer.specs.ValidSteps.{IsValidStep}
use Rattle.fx_answer.proofs.Valid.{shape_valid}
use Rattle.fx_rules.specs.Laws.{IsGiven, IsOfRules}
use Rattle.fx_rules.specs.Parts.{blanked, parts_of}
use Rattle.fx_rules.proofs.GivenLevels.{given_combinations, given_levels}
use Rattle.fx_rules.proofs.Kept.{read_is_given}
use Rattle.fx_program.specs.Claims.{EachStep}
use Rattle.fx_program.specs.Planning.{RuledView, is_minimum, is_searched, planned_in, shape_given}
use Rattle.fx_program.specs.declared.plan_fault.PlanFault.{PlanFault}
use Rattle.fx_program.proofs.AnyText.{any_text}
use Rattle.fx_program_laws.specs.GivenDesigns.{EachRuled, HasGivenDesign}
use Rattle.fx_program_laws.specs.PrintedRules.{RulesGiveTheLevels}
use Rattle.fx_program_laws.proofs.PlannedSteps.{IsRuledBy, are_planned}

pub neither : (a b : Bool) → (a || b) ≡ false → (a ≡ false) × (b ≡ false)
neither true b e = cc e
neither false b e = (refl, e)

-- where nothing is left to a search, the question for 3 is one of the step
low_of : (most : Bool) → most ≡ false → (if most then 1 else 3) ≤ 3
low_of true e = cc e
low_of false e = omega arith

high_of : (most seeks : Bool) (m x : ℕ) → most ≡ false → 3 ≤ (if most then m else (if seeks then max 3 x else 3))
high_of true seeks m x e = cc e
high_of false true m x e = omega arith
high_of false false m x e = omega arith

among_questions : (step : Meaning) (size : Size) → has_most step.settings.blocks ≡ false → is_minimum size ≡ false
    → (lowest step size ≤ 3) × (3 ≤ highest step size)
among_questions step Minimum most fixed = cc fixed
among_questions step (Runs m) most fixed = (
  low_of _ most,
  high_of _ _ m _ most,
)

pub shaped : (step : Meaning) → IsValidStep step → is_searched step.settings ≡ false → IsShape (shape_given step)
shaped step valid fixed =
    let apart = neither step.settings.least _ fixed in
    let both = neither _ _ apart.1 in
    let in_range = among_questions step step.settings.size both.0 both.1 in
    (shape_valid step valid 3 in_range.0 in_range.1).shaped

of_rules : (one : RuledView) → IsValidStep one.step → IsRuledBy one → IsOfRules (shape_given one.step) one.matrix
of_rules one valid own =
    IfOk-at_ok _ own.read
    (read_is_given _ (shaped one.step valid own.fixed) one.step.factors own.rules)

-- the rules of a matrix that rules give
rules_give : (shape : Shape) (factors : List (List ℕ)) (rows : List ℕ) → IsGiven shape rows → length factors ≡ shape.s
    → RulesGiveTheLevels factors (dimensions_of shape) rows
rules_give shape factors rows given count =
    let f = is_order-field shape.q given.matrix.shaped.order in
    record {
      rules = λ k low. with_level _ factors rows k given.whole count low
          (λ none p h. given_levels shape.q shape.m rows k p f given.stepped given.matrix.below
          (omega arith) none h);
      factorial = λ levels h. given_combinations shape.q shape.m rows levels f given.matrix.below h;
    }

has_given : (one : RuledView) → IsValidStep one.step → IsRuledBy one → HasGivenDesign one
has_given one valid own =
    let is = of_rules one valid own in
    record {
      of_rules = is;
      levels = rw is.shape_is (rules_give _ one.step.factors one.matrix.rows is.given refl);
    }

each_given : (all : List RuledView) → AllByRecursion IsValidStep (map (λ (one : RuledView). one.step) all)
    → AllByRecursion IsRuledBy all → AllByRecursion HasGivenDesign all
each_given [] valid own = tt
each_given (one ∷ all) valid own = (has_given one valid.0 own.0, each_given all valid.1 own.1)

of_plan : (text : List ℕ) (plan : Result (List RuledView) PlanFault) → planned_in text ≡ plan
    → EachRuled HasGivenDesign plan
of_plan text (Ok all) is =
    let planned = are_planned text all is in
    let valid =
    subst (EachStep IsValidStep) planned.program
    (any_text IsValidStep (λ step valid. valid) (blanked text (parts_of text))) in
    All-from_recursion HasGivenDesign all
    (each_given all (recursion_from_All IsValidStep (map (λ one. one.step) all) valid) planned.each)
of_plan text (Err wrong) is = tt

pub given_designs : (text : List ℕ) → EachRuled HasGivenDesign (planned_in text)
given_designs text = of_plan text _ refl

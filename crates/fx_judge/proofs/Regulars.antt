-- What elimination shows of a plan: whether it is regular, and that its rules are over its factors.
use Rattle.std.proofs.Common.{ℕ, ◌≡◌, ◌<◌, ◌≤◌, ◌^◌, Bool, List, [], ◌∷◌}
use Rattle.std.proofs.Common.{length, Option, Some, None, refl, sym, subst, ◌∙◌, arith, inl, inr}
use Rattle.std.specs.Prelude.{find, option_map, option_to_list}
use Rattle.std.specs.List.{All, AllByRecursion}
use Rattle.std.proofs.lemmas.Bool.{cases_Bool, cond-true, cond-false, false_from_ne_true}
use Rattle.std.proofs.lemmas.List.Elements.{All-head, All-tail, All-from_recursion}
use Rattle.fx_base.proofs.Ranges.{each-range}
use Rattle.fx_components.proofs.Enumerating.{flat}
use Rattle.fx_designs.specs.Vectors.{IsVector}
use Rattle.fx_laws.proofs.Shift.{all-points}
use Rattle.fx_judge.specs.declared.rule.Rule.{Rule}
use Rattle.fx_judge.specs.Bases.{AreEven, rank}
use Rattle.fx_judge.specs.Plans.{IsPlan, PlanView}
use Rattle.fx_judge.specs.Regular.{is_regular_plan, row_differences}
use Rattle.fx_judge.specs.Rules.{IsRuleOver, basic_among, combination_for, first_row, plan_rule}
use Rattle.fx_judge.specs.Rules.{plan_rules, regular_rules, rule_by}
use Rattle.fx_judge.proofs.Marked.{even_fits, marks_long, plan_differences, regular_even}

find_holds : {X : Type 0} (P : X → Type 0) (p : X → Bool) (xs : List X) (u : X) → All P xs → find p xs ≡ Some u → P u
find_holds P p [] u all e = cc e
find_holds P p (x ∷ xs) u all e = elim (cases_Bool (p x)) [
  | inl t ↦
      let is = sym (cond-true _ (Some x) (find p xs) t) ∙ e in
      subst P (cc is) (All-head P x xs all)
  | inr n ↦ find_holds P p xs u (All-tail P x xs all) (cc (cond-false _ (Some x) (find p xs) n))
]

-- a combination has a code for each factor
combination_long : (q s : ℕ) (differences : List (List ℕ)) (basic : List Bool) (i : ℕ) (u : List ℕ) → 0 < q
    → combination_for q s differences basic i ≡ Some u → s ≤ length u
unfolding combination_for
combination_long q s differences basic i u some e =
    find_holds (λ u. s ≤ length u) _ _ u
    (all-points q s some (λ u. s ≤ length u) (λ u h. omega arith)) e

rule_over : (q s : ℕ) (rows : List (List ℕ)) (i : ℕ) (o : Option (List ℕ)) → 0 < q → i < s
    → combination_for q s (row_differences q rows) (basic_among q s (row_differences q rows) i) i ≡ o
    → AllByRecursion (IsRuleOver s) (option_to_list (option_map (rule_by q (first_row rows) i) o))
rule_over q s rows i None some low e = tt
rule_over q s rows i (Some u) some low e = (
  record {
    first = omega arith;
    last = omega arith;
    combination =
        combination_long q s _ _ i u some e;
  },
  tt,
)

-- each rule is that of a factor, over the factors
pub rules_over : (q s : ℕ) (rows : List (List ℕ)) → 0 < q → All (IsRuleOver s) (plan_rules q s rows)
rules_over q s rows some =
    All-from_recursion _ _
    (flat (IsRuleOver s) _ (λ i. option_to_list (plan_rule q s rows i))
    (λ i low. rule_over q s rows i _ some low refl)
    _ (each-range (λ i. i < s) 0 s (λ i low high. omega arith)))

module _ (plan : PlanView) (h : IsPlan plan) (q : ℕ) (basic : List Bool) (differences : List (List ℕ)) (eq : q ≡ plan.q)
    (eb : basic ≡ basic_among plan.q (length plan.names) (row_differences plan.q plan.rows) (length plan.names))
    (ed : differences ≡ row_differences plan.q plan.rows) where
  abbrev marks : List Bool
  marks = basic_among plan.q (length plan.names) (row_differences plan.q plan.rows) (length plan.names)

  abbrev all : List (List ℕ)
  all = row_differences plan.q plan.rows

  pub each_fits : All (λ d. IsVector q (length basic) d) differences
  each_fits =
      rw eq (rw (← eb) at (subst (λ l. All (λ d. IsVector plan.q (length marks) d) l) (sym ed)
      (rw (← (marks_long plan h)) at (plan_differences plan h))))

  to_plan : AreEven q basic differences → AreEven plan.q marks all
  to_plan e =
      rw ed at (rw eb at (rw eq at e))

  from_plan : AreEven plan.q marks all → AreEven q basic differences
  from_plan e =
      rw eq (rw (← eb) at (subst (λ l. AreEven plan.q marks l) (sym ed) e))

  pub even_within : AreEven q basic differences → q ^ rank basic ≤ length differences
  even_within e =
      rw eq (rw (← eb) at (subst (λ l. plan.q ^ rank marks ≤ length l) (sym ed) (even_fits plan h (to_plan e))))

  pub rules_if_even : (rules : List Rule) → rules ≡ plan_rules plan.q (length plan.names) plan.rows
      → AreEven q basic differences → Some rules ≡ regular_rules plan
  rules_if_even rules is e =
      cc (cond-true (is_regular_plan plan.q plan.rows) (Some (plan_rules plan.q (length plan.names) plan.rows)) None
      ((regular_even plan h).1 (to_plan e)))

  pub none_if_uneven : (AreEven q basic differences → ⊥) → None ≡ regular_rules plan
  none_if_uneven not =
      sym (cond-false _ (Some (plan_rules plan.q (length plan.names) plan.rows)) None
      (false_from_ne_true (is_regular_plan plan.q plan.rows) (λ t. not (from_plan ((regular_even plan h).0 t)))))

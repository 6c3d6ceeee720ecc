-- What the first refusal by some rules says of them.
use Rattle.std.proofs.Common.{◌≡◌, Bool, true, false, List, [], ◌∷◌, Result, Ok, Err, refl, subst}
use Rattle.std.specs.Prelude.{if◌then◌else◌}
use Rattle.std.specs.List.{AllByRecursion}
use Rattle.fx_text.specs.declared.refusal.Refusal.{Refusal}
use Rattle.fx_text.specs.Refusals.{refused_at, ◌>>=◌}
use Rattle.fx_text.proofs.Chains.{bind_ok, same_ok}
use Rattle.fx_settings.specs.declared.rule.Rule.{Rule}
use Rattle.fx_settings.specs.Rules.{first_refusal, unless_refused, DoesNotApply, IsJudged}

-- after a rule that is kept the others decide
behind : {A : Type 0} (rule : Rule) (rules : List Rule) (r : Result A Refusal) → DoesNotApply rule → IsJudged rules r
    → IsJudged (rule ∷ rules) r
behind rule rules (Ok x) kept h = (kept, h)
behind rule rules (Err refusal) kept h = record {
  earlier = rule ∷ h.earlier;
  rule = h.rule;
  later = h.later;
  order = cc;
  none_before = (kept, h.none_before);
  applies = h.applies;
  refusal_is = h.refusal_is;
}

pub judged : {A : Type 0} (rules : List Rule) (x : A) → IsJudged rules (unless_refused rules x)
judged [] x = tt
judged (rule ∷ rules) x = by_test rule.applies refl (judged rules x)
  where
    by_test : (b : Bool) → rule.applies ≡ b → IsJudged rules (unless_refused rules x)
        → let first = if b then Err (refused_at rule.code rule.place) else first_refusal rules in
        IsJudged (rule ∷ rules) (first >>= (λ none. Ok x))
    by_test true e later = record {
      earlier = [];
      rule = rule;
      later = rules;
      order = refl;
      none_before = tt;
      applies = e;
      refusal_is = refl;
    }
    by_test false e later = behind rule rules _ e later

-- where none refuses all are kept
pub all_kept : (rules : List Rule) → first_refusal rules ≡ Ok tt → AllByRecursion DoesNotApply rules
all_kept rules e = subst (λ r. IsJudged rules (r >>= same)) e (judged rules tt)
  where
    same : Unit {0} → Result (Unit {0}) Refusal
    same u = Ok tt

-- what is accepted is the value, which keeps every rule
pub accepted : {A : Type 0} (rules : List Rule) (x y : A) → unless_refused rules x ≡ Ok y
    → AllByRecursion DoesNotApply rules × (x ≡ y)
accepted rules x y e =
    let first = bind_ok _ _ y e in
    (all_kept rules first.1, same_ok x y first.2)

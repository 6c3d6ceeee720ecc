use Rattle.std.proofs.Common.{◌≡◌, ◌++◌, ◌∷◌, [], List, ℕ, Vec, None, Result, Ok, Err, OnErr, length, refl, ap}
use Rattle.std.proofs.Common.{sym}
use Rattle.std.proofs.Common.{◌∙◌, rules}
use Rattle.std.specs.Vec.{vec_len}
use Rattle.std.proofs.lemmas.List.{length-map, map-append}
use Rattle.std.specs.BTreeMap.{insert_entry}
use Rattle.std.specs.Cmp.Lexicographic.{slice_cmp}
use Rattle.std.specs.Ordering.{nat_cmp}
use Rattle.std.specs.Str.{str_to_ascii_lowercase}
use Rattle.fx_text.specs.Names.{place_of}
use Rattle.fx_outputs.specs.declared.earlier.EarlierPlan.{EarlierPlan}
use Rattle.fx_outputs.specs.Earlier.{AreNumbered, plan_names}
use Rattle.fx_outputs.proofs.Folded.{numbered-more}
use Rattle.fx_outputs.proofs.earlier.EarlierPlans.push.Goals as goal

-- what is left as it was is unchanged
left : {A B C : Type 0} (r : Result A B) (x : C) → OnErr r (x ≡ x)
left (Ok a) x = tt
left (Err b) x = refl

-- one more plan with its number
numbered : {A : Type 0} (plans all : List EarlierPlan) (entries now : List (Vec ℕ A × ℕ)) (plan : EarlierPlan)
    (key : Vec ℕ A) (number : ℕ) → all ≡ plans ++ plan ∷ [] → key.items ≡ str_to_ascii_lowercase plan.name
    → number ≡ length plans
    → now ≡ insert_entry (λ (x y : Vec ℕ A). slice_cmp nat_cmp x.items y.items) entries key number
    → place_of plan.name (plan_names plans) ≡ None → AreNumbered (plan_names plans) entries
    → AreNumbered (plan_names all) now
numbered {A = A} plans all entries now plan key number more is at put new h =
    let names =
    ap plan_names more ∙ map-append (λ p. p.name) plans (plan ∷ []) in
    let last = at ∙ sym (length-map plans (λ p. p.name)) in
    rw (put
    ∙ ap (insert_entry (λ (x y : Vec ℕ A). slice_cmp nat_cmp x.items y.items) entries key) last)
    (rw (← names) at (numbered-more _ entries plan.name key is new h))

pub invariant_of-self-in-Ok-insert : goal.invariant_of-self-in-Ok-insert
invariant_of-self-in-Ok-insert c =
    let long : vec_len c.self.inside.plans ≡ length c.self.inside.plans.items = search rules in
    numbered c.self.inside.plans.items c.push.new.self.items c.self.inside.numbers.entries c.insert.new.self.entries
    c.args.plan c.in_ok-key.key c.in-Ok.number c.in-Ok-push.ensures.items
    (cc (c.in_ok-key.ensures, c.as_slice.ensures))
    (cc (c.in-Ok.ensures.1, c.len.ensures)) c.in-Ok-insert.ensures.entries
    (rw c.self.view_is c.requires)
    c.self.invariant

pub returns-in_err-key-clause-unchanged : goal.returns-in_err-key-clause-unchanged
returns-in_err-key-clause-unchanged c = left c.from_residual.result c.args.self.now

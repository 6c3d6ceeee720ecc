use Rattle.std.proofs.Common.{◌≡◌, ◌≤◌, ◌-◌, ◌++◌, ◌∷◌, [], ◌∙◌, ℕ, List, map, take, get_or, length, ap, arith, rules}
use Rattle.std.proofs.Common.{append_assoc, All}
use Rattle.std.proofs.lemmas.List.{get_or_default}
use Rattle.fx_outputs.specs.declared.derived.Derived.{Derived}
use Rattle.fx_plan.proofs.Fitting.{free_in}
use Rattle.fx_plan.proofs.Lists.{behind_more}
use Rattle.fx_plan.proofs.columns.put_column_names.Goals as goal

-- each free place is that of a factor
in_factors : (s : ℕ) (free all : List ℕ) → free ≡ all → All (λ p. (1 ≤ p) × (p ≤ s)) all
    → All (λ p. (1 ≤ p) × (p ≤ s)) free
in_factors s free all e h = rw e h

pub overflow_sub-from : goal.overflow_sub-from
overflow_sub-from c =
    let at = in_factors _ c.args.free.now _ c.requires
    (free_in (length c.args.factors.now) c.args.derived.now) c.loop-place.place-index 0 c.loop-place-test.true in
    (let low = at.0 in omega arith)

pub get-name-requires : goal.get-name-requires
get-name-requires c =
    let at = in_factors _ c.args.free.now _ c.requires
    (free_in (length c.args.factors.now) c.args.derived.now) c.loop-place.place-index 0 c.loop-place-test.true in
    (let low = at.0 in let high = at.1 in omega arith)

pub loop-place-preserved : goal.loop-place-preserved
loop-place-preserved c =
    let p = get_or c.args.free.now c.loop-place.place-index 0 in
    let at = in_factors _ c.args.free.now _ c.requires
    (free_in (length c.args.factors.now) c.args.derived.now) c.loop-place.place-index 0 c.loop-place-test.true in
    let raw =
    rw c.from.ensures at c.get-name.ensures in
    let name =
    raw ∙ get_or_default c.args.factors.now (p - 1) c.get-name.result.now []
    (let a = at.0 in let b = at.1 in omega arith) in
    let pushed : c.push.new.self ≡ c.loop-place.names ++ c.get-name.result.now ∷ [] = search rules in
    pushed ∙ ap (λ l. c.loop-place.names ++ l ∷ []) name
    ∙ rw c.loop-place.invariant
    (behind_more c.args.names.now (λ p. get_or c.args.factors.now (p - 1) []) c.args.free.now c.loop-place.place-index
    0 (omega arith))

pub loop-factor-preserved : goal.loop-factor-preserved
loop-factor-preserved c =
    let d = c.factor-item.result in
    let front = map (λ p. get_or c.args.factors.now (p - 1) []) c.args.free.now in
    let done =
    front ++ map (λ x. x.name) (take c.loop-factor.factor-index c.args.derived.now) in
    let pushed : c.push-in-loop-factor.new.self ≡ c.loop-factor.names ++ d.name ∷ [] = search rules in
    cc (
      c.loop-factor.invariant,
      append_assoc c.args.names.now done
          (d.name ∷ []),
      c.factor-item.is,
      behind_more front (λ (x : Derived). x.name)
          c.args.derived.now c.loop-factor.factor-index d (omega arith),
    )

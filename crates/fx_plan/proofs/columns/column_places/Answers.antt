use Rattle.std.proofs.Common.{◌≡◌, ◌++◌, ◌∷◌, [], ◌∙◌, map, take}
use Rattle.std.proofs.Common.{get_or, arith, rules}
use Rattle.fx_outputs.specs.declared.derived.Derived.{Derived}
use Rattle.fx_plan.proofs.Lists.{mapped_more, behind_more}
use Rattle.fx_plan.proofs.columns.column_places.Goals as goal

pub loop-place-preserved : goal.loop-place-preserved
loop-place-preserved c =
    let pushed : c.push.new.self
    ≡ c.loop-place.columns ++ (get_or c.args.free.now c.loop-place.place-index 0 ∷ []) ∷ [] = search rules in
    pushed ∙ rw c.loop-place.invariant
    (mapped_more (λ p. p ∷ []) c.args.free.now c.loop-place.place-index 0 (omega arith))

pub loop-factor-preserved : goal.loop-factor-preserved
loop-factor-preserved c =
    let d = c.factor-item.result in
    let front = map (λ p. p ∷ []) c.args.free.now in
    let done =
    front ++ map (λ x. x.places) (take c.loop-factor.factor-index c.args.derived.now) in
    let pushed : c.push-in-loop-factor.new.self ≡ c.loop-factor.columns ++ d.places ∷ [] = search rules in
    cc (
      c.loop-factor.invariant,
      c.factor-item.is,
      behind_more front (λ (x : Derived). x.places)
          c.args.derived.now c.loop-factor.factor-index d (omega arith),
    )

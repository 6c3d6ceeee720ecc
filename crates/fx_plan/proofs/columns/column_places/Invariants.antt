use Rattle.std.proofs.Common.{◌≡◌, ◌++◌, ◌∷◌, [], take, map}
use Rattle.fx_outputs.specs.declared.derived.Derived.{Derived}
use Rattle.fx_plan.proofs.columns.column_places.Given as goal

abbrev pub invariant-loop-place : goal.invariant-loop-place
invariant-loop-place l = l.columns ≡ map (λ p. p ∷ []) (take l.place-index l.free)

abbrev pub invariant-loop-factor : goal.invariant-loop-factor
invariant-loop-factor l =
    l.columns ≡ map (λ p. p ∷ []) l.free ++ map (λ (d : Derived). d.places) (take l.factor-index l.derived)

use Rattle.std.proofs.Common.{◌≡◌, ◌++◌, ◌^◌, take, map, length}
use Rattle.fx_plan.specs.Plans.{values_at}
use Rattle.fx_outputs.specs.declared.derived.Derived.{Derived}
use Rattle.fx_plan.specs.Columns.{values_or_codes}
use Rattle.fx_plan.proofs.columns.column_values.Given as goal

abbrev pub invariant-loop-place : goal.invariant-loop-place
invariant-loop-place l =
    map (λ v. v.items) l.values.items ≡ map (λ p. values_at l.q l.recodes p) (take l.place-index l.free)

abbrev pub invariant-loop-factor : goal.invariant-loop-factor
invariant-loop-factor l = map (λ v. v.items) l.values.items
    ≡ map (λ p. values_at l.q l.recodes p) l.free
    ++ map (λ (d : Derived). values_or_codes (l.q ^ length d.places) d.values) (take l.factor-index l.derived)

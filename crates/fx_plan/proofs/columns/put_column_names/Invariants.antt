use Rattle.std.proofs.Common.{◌≡◌, ◌++◌, ◌-◌, [], take, map, get_or}
use Rattle.fx_outputs.specs.declared.derived.Derived.{Derived}
use Rattle.fx_plan.proofs.columns.put_column_names.Given as goal

abbrev pub invariant-loop-place : goal.invariant-loop-place
invariant-loop-place l = l.names ≡ l.fn.names ++ map (λ p. get_or l.factors (p - 1) []) (take l.place-index l.free)

abbrev pub invariant-loop-factor : goal.invariant-loop-factor
invariant-loop-factor l =
    l.names ≡ l.fn.names
    ++ (map (λ p. get_or l.factors (p - 1) []) l.free ++ map (λ (d : Derived). d.name) (take l.factor-index l.derived))

use Rattle.std.proofs.Common.{◌≡◌, ◌++◌, map, take}
use Rattle.fx_outputs.specs.declared.derived.Derived.{Derived}
use Rattle.fx_outputs.proofs.own_columns.push_derived.Given as goal

abbrev pub invariant-loop-factor : goal.invariant-loop-factor
invariant-loop-factor l = l.names ≡ l.fn.names ++ map (λ (d : Derived). d.name) (take l.factor-index l.derived)

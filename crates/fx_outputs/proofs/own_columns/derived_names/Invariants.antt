use Rattle.std.proofs.Common.{◌≡◌, ◌++◌, drop}
use Rattle.fx_outputs.specs.Columns.{derived_names}
use Rattle.fx_outputs.proofs.own_columns.derived_names.Given as goal

abbrev pub invariant-loop-option : goal.invariant-loop-option
invariant-loop-option l = derived_names l.options ≡ l.names ++ derived_names (drop l.option-index l.options)

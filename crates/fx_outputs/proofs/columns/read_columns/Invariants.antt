use Rattle.std.proofs.Common.{◌≡◌, drop}
use Rattle.fx_outputs.specs.Columns.{columns_of, columns_behind}
use Rattle.fx_outputs.proofs.columns.read_columns.Given as goal

abbrev pub invariant-loop-option : goal.invariant-loop-option
invariant-loop-option l =
    columns_of l.context l.options ≡ columns_behind l.context l.done (drop l.option-index l.options)

use Rattle.std.proofs.Common.{◌≡◌, drop}
use Rattle.fx_outputs.specs.Columns.{check_names}
use Rattle.fx_outputs.proofs.own_columns.check_names.Given as goal

abbrev pub invariant-loop-i : goal.invariant-loop-i
invariant-loop-i l = check_names l.fn.columns l.options ≡ check_names l.columns (drop l.i l.options)

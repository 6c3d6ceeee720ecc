use Rattle.std.proofs.Common.{◌≡◌, ◌+◌, ◌++◌, drop}
use Rattle.fx_outputs.specs.OwnColumns.{free_names}
use Rattle.fx_outputs.proofs.own_columns.push_free.Given as goal

abbrev pub invariant-loop-i : goal.invariant-loop-i
invariant-loop-i l =
    l.names ++ free_names l.derived (l.i + 1) (drop l.i l.factors) ≡ l.fn.names ++ free_names l.derived 1 l.factors

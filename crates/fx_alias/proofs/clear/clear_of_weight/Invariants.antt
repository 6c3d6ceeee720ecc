use Rattle.std.proofs.Common.{◌≡◌, ◌&&◌, ◌==◌, take}
use Rattle.std.specs.Prelude.{count_by}
use Rattle.fx_designs.specs.Vectors.{weight}
use Rattle.fx_runs.specs.Runs.{design_of}
use Rattle.fx_alias.specs.Clear.{is_clear}
use Rattle.fx_alias.proofs.clear.clear_of_weight.Given as goal

abbrev pub invariant-loop-i : goal.invariant-loop-i
invariant-loop-i l =
    l.count ≡ count_by (λ u. (weight u == l.k) && is_clear (design_of l.matrix) l.components u) (take l.i l.components)

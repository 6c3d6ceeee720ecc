use Rattle.std.proofs.Common.{◌≡◌, ◌++◌}
use Rattle.std.specs.List.{flat_map, range_with_len}
use Rattle.fx_alias.specs.Points.{point_line}
use Rattle.fx_alias.proofs.design.put_points.Given as goal

abbrev pub invariant-loop-k : goal.invariant-loop-k
invariant-loop-k l = l.out ≡ l.fn.out ++ flat_map (point_line l.runs) (range_with_len 0 l.k)

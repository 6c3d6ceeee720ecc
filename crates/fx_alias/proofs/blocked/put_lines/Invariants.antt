use Rattle.std.proofs.Common.{◌≡◌, ◌++◌, map, filter, take}
use Rattle.std.specs.List.{flat_map}
use Rattle.fx_alias.specs.Blocked.{component_line, is_blocked}
use Rattle.fx_runs.specs.Runs.{design_of}
use Rattle.fx_alias.proofs.blocked.put_lines.Given as goal

abbrev pub invariant-loop-u : goal.invariant-loop-u
invariant-loop-u l =
    l.out ≡ l.fn.out
    ++ flat_map (component_line (map (λ n. n.now) l.names))
    (filter (is_blocked (design_of l.matrix)) (take l.u-index l.components))

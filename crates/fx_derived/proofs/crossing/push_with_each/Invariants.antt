use Rattle.std.proofs.Common.{◌≡◌, ◌++◌, [], take, map, get_or}
use Rattle.fx_derived.proofs.crossing.push_with_each.Given as goal

abbrev pub invariant-loop-j : goal.invariant-loop-j
invariant-loop-j l =
    l.table ≡ record l.fn.table
    { rows = l.fn.table.rows ++ map (λ y. get_or l.rows.rows l.i [] ++ y) (take l.j l.named.rows) }

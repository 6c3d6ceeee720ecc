use Rattle.std.proofs.Common.{◌≡◌, ◌++◌, [], take, map, get_or}
use Rattle.fx_derived.proofs.crossing.push_each_with.Given as goal

abbrev pub invariant-loop-i : goal.invariant-loop-i
invariant-loop-i l =
    l.table ≡ record l.fn.table
    { rows = l.fn.table.rows ++ map (λ x. x ++ get_or l.named.rows l.j []) (take l.i l.rows.rows) }

use Rattle.std.proofs.Common.{◌≡◌, ◌++◌, drop, map}
use Rattle.fx_table_lines.specs.Listing.{rules_from}
use Rattle.fx_table_lines.proofs.rules.put_each.Given as goal

abbrev pub invariant-loop-k : goal.invariant-loop-k
invariant-loop-k l =
    l.out ++ rules_from (map (λ n. n.now) l.units) l.matrix.shape l.k (drop l.k l.matrix.rows)
    ≡ l.fn.out ++ rules_from (map (λ n. n.now) l.units) l.matrix.shape 0 l.matrix.rows

use Rattle.std.proofs.Common.{◌≡◌, map, take}
use Rattle.fx_table_lines.proofs.rules.each_of.Given as goal

abbrev pub invariant-loop-i : goal.invariant-loop-i
invariant-loop-i l = map (λ n. n.now) l.each.items ≡ take l.i l.names

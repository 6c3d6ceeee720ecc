use Rattle.std.proofs.Common.{◌<◌}
use Rattle.fx_table_lines.proofs.basis.product.Given as goal

abbrev pub invariant-loop : goal.invariant-loop
invariant-loop l = l.total < l.fn.base.q

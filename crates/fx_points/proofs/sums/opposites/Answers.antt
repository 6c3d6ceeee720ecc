use Rattle.std.proofs.Common.{arith}
use Rattle.fx_laws.proofs.Tables.{is_order-field}
use Rattle.fx_laws.proofs.Linear.{neg-positive}
use Rattle.fx_points.proofs.sums.opposites.Goals as goal

pub sum_with-requires-clause-some : goal.sum_with-requires-clause-some
sum_with-requires-clause-some c = let h =
    neg-positive c.args.field (is_order-field c.args.field c.q-known.ensures.known) in
    omega arith

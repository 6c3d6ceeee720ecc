use Rattle.std.proofs.Common.{arith}
use Rattle.fx_vectors.proofs.Limits.{order-bounds, numbers_fit}
use Rattle.fx_table_book.proofs.front.has_few_runs.Goals as goal

pub pow-requires : goal.pow-requires
pow-requires c =
    let h = numbers_fit c.args.q c.args.m (order-bounds c.args.q c.requires.order).1 (omega arith)
    in
    omega arith

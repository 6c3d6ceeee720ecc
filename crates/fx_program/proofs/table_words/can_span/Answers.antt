use Rattle.std.proofs.Common.{arith}
use Rattle.fx_vectors.proofs.Limits.{numbers_fit, order-bounds}
use Rattle.fx_program.proofs.table_words.can_span.Goals as goal

pub pow-requires : goal.pow-requires
pow-requires c =
    let bounds = order-bounds c.args.q c.requires.levels in
    let fits = numbers_fit c.args.q c.args.h bounds.1 (omega (arith, c.requires.dimension)) in
    rw (c.from-then-h-count-2.ensures, c.from-then-h-count-3.ensures) (omega (arith, fits))

use Rattle.std.proofs.Common.{◌+◌, subst, arith}
use Rattle.fx_vectors.specs.Shape.{IsShape}
use Rattle.fx_vectors.proofs.Limits.{words_fit}
use Rattle.search_tests.proofs.demands.closing_number.Goals as goal

pub number-number-requires-clause-fits : goal.number-number-requires-clause-fits
number-number-requires-clause-fits c =
    let shape = c.args.forbidden.now.shape in
    let valid : IsShape shape = subst IsShape c.shape.ensures.shape c.shape.ensures.valid in
    rw (c.field.ensures, c.shape.ensures.shape, c.in-Some.ensures.vector.len)
    (words_fit shape valid (shape.s + shape.t) (omega arith))

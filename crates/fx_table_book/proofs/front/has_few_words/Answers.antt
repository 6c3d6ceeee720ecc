use Rattle.std.proofs.Common.{arith}
use Rattle.fx_vectors.proofs.Limits.{words_fit}
use Rattle.fx_vectors.specs.declared.shape.Shape.{Shape}
use Rattle.fx_table_book.proofs.Shapes.{shape_is}
use Rattle.fx_table_book.proofs.front.has_few_words.Goals as goal

pub pow-requires : goal.pow-requires
pow-requires c =
    let shape : Shape = record { q = c.args.q; m = c.args.m; s = c.args.s; t = 0 } in
    let h = words_fit shape (shape_is c.args.q c.args.m c.args.s c.requires) c.args.s (omega arith) in
    omega arith

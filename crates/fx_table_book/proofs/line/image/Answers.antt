use Rattle.fx_vectors.proofs.Limits.{indexes_fit}
use Rattle.fx_table_book.proofs.line.image.Goals as goal

pub numbers_after-requires-clause-few : goal.numbers_after-requires-clause-few
numbers_after-requires-clause-few c = indexes_fit _ c.requires.base.shaped

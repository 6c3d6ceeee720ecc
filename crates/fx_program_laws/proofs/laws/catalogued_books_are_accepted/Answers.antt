use Rattle.fx_program_laws.proofs.CataloguedBooks.{catalogue_accepted}
use Rattle.fx_program_laws.proofs.laws.catalogued_books_are_accepted.Goals as goal

pub returns : goal.returns
returns c = catalogue_accepted

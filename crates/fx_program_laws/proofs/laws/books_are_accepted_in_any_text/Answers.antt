use Rattle.fx_program_laws.specs.BookClaims.{HasAcceptedBooks}
use Rattle.fx_program.proofs.AnyText.{any_text}
use Rattle.fx_program_laws.proofs.GoodBooks.{step_accepted}
use Rattle.fx_program_laws.proofs.laws.books_are_accepted_in_any_text.Goals as goal

pub returns : goal.returns
returns c = any_text HasAcceptedBooks step_accepted

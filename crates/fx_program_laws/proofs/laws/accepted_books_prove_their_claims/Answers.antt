use Rattle.fx_program.specs.CommandLine.{settings_of}
use Rattle.fx_program.proofs.ProvedBooks.{proved_text}
use Rattle.fx_program_laws.proofs.laws.accepted_books_prove_their_claims.Goals as goal

pub returns : goal.returns
unfolding settings_of
returns c text given is accepted = proved_text text (cc)

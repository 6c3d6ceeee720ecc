use Rattle.fx_lexer.proofs.PiecesOfText.{made_of, breaks_off}
use Rattle.fx_lexer.proofs.TextOfPieces.{tokens_read, fault_found}
use Rattle.fx_lexer.proofs.laws.text_is_pieces.Goals as goal

pub returns-clause-tokens : goal.returns-clause-tokens
returns-clause-tokens c = λ tokens. (made_of c.args.text.now tokens, tokens_read c.args.text.now tokens)

pub returns-clause-fault : goal.returns-clause-fault
returns-clause-fault c = λ fault. (breaks_off c.args.text.now fault, fault_found c.args.text.now fault)

use Rattle.fx_lexer.proofs.Placed.{tokens_placed, fault_placed}
use Rattle.fx_lexer.proofs.laws.tokens_and_faults_have_places.Goals as goal

pub returns-clause-tokens : goal.returns-clause-tokens
returns-clause-tokens c = tokens_placed c.args.text.now

pub returns-clause-fault : goal.returns-clause-fault
returns-clause-fault c = fault_placed c.args.text.now

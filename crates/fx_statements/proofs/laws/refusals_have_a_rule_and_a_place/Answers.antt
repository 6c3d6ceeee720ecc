use Rattle.fx_lexer.proofs.Placed.{tokens_placed}
use Rattle.fx_statements.proofs.Placed.{refused}
use Rattle.fx_statements.proofs.laws.refusals_have_a_rule_and_a_place.Goals as goal

pub returns : goal.returns
returns c = λ text tokens lexed. refused text tokens (tokens_placed text tokens lexed)

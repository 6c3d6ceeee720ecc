use Rattle.fx_language.proofs.Prefixes.{accepted_to_match, match_to_accepted}
use Rattle.fx_language.proofs.laws.accepted_is_a_program.Goals as goal

pub returns : goal.returns
returns c = λ symbols. (accepted_to_match symbols, match_to_accepted symbols)

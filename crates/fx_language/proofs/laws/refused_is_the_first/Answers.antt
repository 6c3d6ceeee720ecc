use Rattle.fx_language.proofs.Prefixes.{refused_to_first, first_to_refused}
use Rattle.fx_language.proofs.laws.refused_is_the_first.Goals as goal

pub returns : goal.returns
returns c = λ symbols i. (refused_to_first symbols i, first_to_refused symbols i)

use Rattle.fx_language.proofs.Unknown.{awaited}
use Rattle.fx_language.proofs.LeftOut.{left_out, one_of_two}
use Rattle.fx_language.proofs.laws.named_codes_in_words.Goals as goal

pub returns-clause-unknown : goal.returns-clause-unknown
returns-clause-unknown c = awaited

pub returns-clause-left_out : goal.returns-clause-left_out
returns-clause-left_out c = left_out

pub returns-clause-no_other : goal.returns-clause-no_other
returns-clause-no_other c = one_of_two

use Rattle.fx_language.proofs.Derivatives.{parts_of, sequence_of}
use Rattle.fx_language.proofs.laws.sequence_is_one_before_another.Goals as goal

pub returns : goal.returns
returns c = λ a b text. (parts_of a b text, sequence_of a b text)

use Rattle.fx_language.proofs.SameTexts.{without_codes, with_codes}
use Rattle.fx_language.proofs.laws.codes_change_no_text.Goals as goal

pub returns : goal.returns
returns c = λ text. (without_codes text, with_codes text)

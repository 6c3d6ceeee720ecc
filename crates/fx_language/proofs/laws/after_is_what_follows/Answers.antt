use Rattle.fx_language.proofs.Derivatives.{after_sound, after_complete}
use Rattle.fx_language.proofs.laws.after_is_what_follows.Goals as goal

pub returns : goal.returns
returns c = λ s a text. (after_sound s a text, after_complete s a text)

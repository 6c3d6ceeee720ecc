use Rattle.std.proofs.Common.{ap, ◌∙◌, Some}
use Rattle.fx_base.proofs.Words.{listed-acts, shelved-acts}
use Rattle.fx_base.proofs.laws.all_acts_in_words.Goals as goal

pub returns : goal.returns
returns c = λ events text files old now w f did. (
  cc (did.listing.exposed text w, listed-acts events),
  did.shelf.exposed files f ∙ ap Some (shelved-acts events files),
)

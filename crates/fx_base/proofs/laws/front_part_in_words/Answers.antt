use Rattle.std.proofs.Common.{ap, ◌∙◌, Some}
use Rattle.fx_base.proofs.Words.{comes}
use Rattle.fx_base.proofs.laws.front_part_in_words.Goals as goal

pub returns : goal.returns
returns c = λ events text files old now w f begun.
    let come = comes events begun.done begun.left begun.front in
    record {
      listing = _;
      added = come.new;
      come = come.come;
      written = begun.did.listing.exposed text w;
      shelf = begun.did.shelf.exposed files f ∙ ap Some (come.added files);
    }

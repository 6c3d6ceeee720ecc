use Rattle.fx_foldover.proofs.Resolutions.{no-more_words, not-lower}
use Rattle.fx_foldover.proofs.laws.resolution_is_not_lower.Goals as goal

pub returns-clause-words : goal.returns-clause-words
returns-clause-words c m rows fold k e = no-more_words m rows fold k e

pub returns-clause-resolution : goal.returns-clause-resolution
returns-clause-resolution c m rows fold e = not-lower m rows fold e

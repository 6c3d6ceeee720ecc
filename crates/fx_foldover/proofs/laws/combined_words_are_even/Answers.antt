use Rattle.std.proofs.Common.{sym, ◌∙◌}
use Rattle.fx_laws.proofs.CanonicalTest.{rows-vectors}
use Rattle.fx_words.proofs.Levels.{length-vectors}
use Rattle.fx_foldover.proofs.Rules.{two}
use Rattle.fx_foldover.proofs.EvenWords.{even-words, other-words}
use Rattle.fx_foldover.proofs.laws.combined_words_are_even.Goals as goal

pub returns-clause-even : goal.returns-clause-even
returns-clause-even c m rows fold u e hu =
    let count = length-vectors 2 m rows in
    even-words m fold _ (e ∙ sym count) (rows-vectors 2 m two rows) u
    (rw (← count) at hu)

pub returns-clause-balanced : goal.returns-clause-balanced
returns-clause-balanced c m rows fold u e hu none =
    let count = length-vectors 2 m rows in
    other-words m fold _ (e ∙ sym count) (rows-vectors 2 m two rows) u
    (rw (← count) at hu) none

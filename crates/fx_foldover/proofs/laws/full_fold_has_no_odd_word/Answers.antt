use Rattle.std.proofs.Common.{sym, ◌∙◌}
use Rattle.std.proofs.lemmas.List.Elements.{recursion_from_All}
use Rattle.fx_laws.proofs.CanonicalTest.{rows-vectors}
use Rattle.fx_words.proofs.Levels.{length-vectors}
use Rattle.fx_foldover.proofs.Rules.{two}
use Rattle.fx_foldover.proofs.EvenWords.{no-odd_word, no-odd_entry}
use Rattle.fx_foldover.proofs.laws.full_fold_has_no_odd_word.Goals as goal

pub returns-clause-word : goal.returns-clause-word
returns-clause-word c m rows fold u e full hu odd =
    let count = length-vectors 2 m rows in
    no-odd_word m fold _ (e ∙ sym count) (rows-vectors 2 m two rows)
    (recursion_from_All _ fold full) u (rw (← count) at hu) odd

pub returns-clause-count : goal.returns-clause-count
returns-clause-count c m rows fold k e full even =
    no-odd_entry m fold _ (e ∙ sym (length-vectors 2 m rows)) (rows-vectors 2 m two rows)
    (recursion_from_All _ fold full) k even

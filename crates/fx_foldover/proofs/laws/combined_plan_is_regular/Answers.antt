use Rattle.std.proofs.Common.{sym, add-one, ◌∙◌}
use Rattle.fx_words.proofs.Levels.{length-vectors}
use Rattle.fx_foldover.proofs.Rules.{combined-runs}
use Rattle.fx_foldover.proofs.CombinedWords.{combined_rows-vectors, pattern_of_rows}
use Rattle.fx_foldover.proofs.laws.combined_plan_is_regular.Goals as goal

pub returns-clause-plan : goal.returns-clause-plan
returns-clause-plan c m rows fold e =
    cc (combined-runs m fold _ (e ∙ sym (length-vectors 2 m rows)), combined_rows-vectors m fold rows, add-one m)

pub returns-clause-pattern : goal.returns-clause-pattern
returns-clause-pattern c m rows fold e = pattern_of_rows m fold rows e

use Rattle.std.proofs.Common.{[], ◌+◌, ◌++◌, ◌∷◌, map}
use Rattle.std.proofs.Common.{ap, ap₂, ◌∙◌}
use Rattle.fx_strata.specs.Stages.{missing, later_rows}
use Rattle.fx_strata.specs.Floors.{new_words}
use Rattle.fx_strata.specs.Floors.{least_sum}
use Rattle.fx_table_book.specs.Tables.{strata_of}
use Rattle.fx_table_check.specs.Prefixes.{PrefixView}
use Rattle.fx_table_check.proofs.prefix.Prefix.words_floor.Goals as goal

pub returns-clause-floor : goal.returns-clause-floor
returns-clause-floor c =
    ap₂ (λ a b. a + b) c.words_with-own.ensures.words
    (c.least_new-new.ensures.least
    ∙ ap (λ v. least_sum (missing (strata_of v.base) v.rows)
    (map (λ r. new_words (strata_of v.base) v.rows r c.args.confounded (c.args.i + 1))
    (later_rows (strata_of v.base) v.rows)))
    (c.push.ensures ∙ ap (λ (v : PrefixView). record v { rows = v.rows ++ c.args.row ∷ [] })
    c.words_with-own.ensures.same))

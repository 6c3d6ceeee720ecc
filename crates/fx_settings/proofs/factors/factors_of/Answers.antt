use Rattle.std.proofs.Common.{◌≡◌, Ok, ap, ◌∙◌}
use Rattle.std.proofs.lemmas.List.{drop_all}
use Rattle.fx_settings.specs.Items.{items_behind}
use Rattle.fx_settings.specs.Factors.{all_added, names_of_factors}
use Rattle.fx_settings.proofs.Distinct.{factors_differ}
use Rattle.fx_settings.proofs.factors.factors_of.Goals as goal

pub returns-clause-distinct : goal.returns-clause-distinct
returns-clause-distinct c =
    let names = c.loop-i.names in
    let none_left =
    drop_all c.loop-i.i c.lexemes-lexemes.result.now c.loop-i-test.false in
    let all : names_of_factors c.args.limit c.args.statement.now ≡ Ok names =
    c.loop-i.invariant.1 ∙ ap (λ rest. all_added c.args.limit names (items_behind rest)) none_left
    in
    factors_differ c.args.limit c.args.statement.now names all

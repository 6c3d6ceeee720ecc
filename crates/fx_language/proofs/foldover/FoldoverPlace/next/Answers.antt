use Rattle.std.proofs.Common.{ap, sym, ◌∙◌}
use Rattle.fx_language.specs.Symbols.{is_word}
use Rattle.fx_language.specs.Shapes.{derivative}
use Rattle.fx_language.specs.declared.state.State.TheVariants.{Foldover}
use Rattle.fx_language.specs.declared.foldover.FoldoverPlace.TheVariants as foldover
use Rattle.fx_language.specs.Continuations.{foldover_left, shape_left}
use Rattle.fx_language.proofs.Keys.{one}
use Rattle.fx_language.proofs.foldover.FoldoverPlace.next.Goals as goal

pub returns-in-Items : goal.returns-in-Items
returns-in-Items c =
    cc (c.in-Items.is, c.behind_item.ensures)

pub returns-in-Name : goal.returns-in-Name
returns-in-Name c = cc (c.in-Name.is, c.behind_name.ensures)

pub returns-in-Range : goal.returns-in-Range
returns-in-Range c =
    ap (λ place. derivative c.args.symbol (foldover_left place)) c.in-Range.is
    ∙ one (is_word c.args.symbol) (Foldover foldover.Items)
    ∙ ap shape_left (sym c.any_word.ensures)

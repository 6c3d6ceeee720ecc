use Rattle.std.proofs.Common.{ap, sym, ◌∙◌}
use Rattle.fx_language.specs.declared.symbol.Symbol.TheVariants.{Nlev, Equals, Whole}
use Rattle.fx_language.specs.Symbols.{is, is_word}
use Rattle.fx_language.specs.Shapes.{derivative}
use Rattle.fx_language.specs.declared.state.State.TheVariants.{StatementEnd, Factors}
use Rattle.fx_language.specs.declared.factors.FactorsPlace.TheVariants as factors
use Rattle.fx_language.specs.Continuations.{factors_left, shape_left}
use Rattle.fx_language.proofs.Keys.{one}
use Rattle.fx_language.proofs.factors.FactorsPlace.next.Goals as goal

pub returns-in-First : goal.returns-in-First
returns-in-First c =
    ap (λ place. derivative c.args.symbol (factors_left place)) c.in-First.is
    ∙ one (is_word c.args.symbol) (Factors factors.Name)
    ∙ ap shape_left (sym c.any_word.ensures)

pub returns-in-Name : goal.returns-in-Name
returns-in-Name c = cc (c.in-Name.is, c.behind_name.ensures)

pub returns-in-Range : goal.returns-in-Range
returns-in-Range c =
    ap (λ place. derivative c.args.symbol (factors_left place)) c.in-Range.is
    ∙ one (is_word c.args.symbol) (Factors factors.More)
    ∙ ap shape_left (sym c.any_word-in-Range.ensures)

pub returns-in-More : goal.returns-in-More
returns-in-More c = cc (c.in-More.is, c.behind_item.ensures)

pub returns-in-Option : goal.returns-in-Option
returns-in-Option c =
    ap (λ place. derivative c.args.symbol (factors_left place)) c.in-Option.is
    ∙ one (is Nlev c.args.symbol) (Factors factors.Equals)
    ∙ ap shape_left (sym c.only.ensures)

pub returns-in-Equals : goal.returns-in-Equals
returns-in-Equals c =
    ap (λ place. derivative c.args.symbol (factors_left place)) c.in-Equals.is
    ∙ one (is Equals c.args.symbol) (Factors factors.Levels)
    ∙ ap shape_left (sym c.only-in-Equals.ensures)

pub returns-in-Levels : goal.returns-in-Levels
returns-in-Levels c =
    ap (λ place. derivative c.args.symbol (factors_left place)) c.in-Levels.is
    ∙ one (is Whole c.args.symbol) StatementEnd
    ∙ ap shape_left (sym c.only-in-Levels.ensures)

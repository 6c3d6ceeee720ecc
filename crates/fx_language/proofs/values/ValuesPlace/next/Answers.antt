use Rattle.std.proofs.Common.{◌≡◌, ap, sym, ◌∙◌}
use Rattle.fx_language.specs.declared.symbol.Symbol.TheVariants.{Quoted, Equals, Open}
use Rattle.fx_language.specs.Symbols.{is}
use Rattle.fx_language.specs.Shapes.{derivative}
use Rattle.fx_language.specs.declared.state.State.TheVariants.{Values}
use Rattle.fx_language.specs.declared.values.ValuesPlace.TheVariants as listed
use Rattle.fx_language.specs.declared.values.ValueKind.TheVariants as kind
use Rattle.fx_language.specs.Continuations.{values_left, shape_left}
use Rattle.fx_language.proofs.Keys.{one}
use Rattle.fx_language.proofs.values.ValuesPlace.next.Goals as goal

pub returns-in-Equals : goal.returns-in-Equals
returns-in-Equals c =
    ap (λ place. derivative c.args.symbol (values_left place)) c.in-Equals.is
    ∙ one (is Equals c.args.symbol) (Values (listed.Open c.in-Equals.kind))
    ∙ ap shape_left (sym c.only.ensures)

pub returns-in-Open-Numbers : goal.returns-in-Open-Numbers
returns-in-Open-Numbers c =
    let e : c.in-Open-Numbers.field-0 ≡ kind.Numbers = rw c.in-Open-Numbers.is at c.in-Open-Numbers.field-0-is in
    ap (λ place. derivative c.args.symbol (values_left place)) (c.in-Open-Numbers.is ∙ ap listed.Open e)
    ∙ one (is Open c.args.symbol) (Values listed.Number)
    ∙ ap shape_left (sym c.only-in-Open-Numbers.ensures)

pub returns-in-Open-Texts : goal.returns-in-Open-Texts
returns-in-Open-Texts c =
    let e : c.in-Open-Texts.field-0 ≡ kind.Texts = rw c.in-Open-Texts.is at c.in-Open-Texts.field-0-is in
    ap (λ place. derivative c.args.symbol (values_left place)) (c.in-Open-Texts.is ∙ ap listed.Open e)
    ∙ one (is Open c.args.symbol) (Values listed.Text)
    ∙ ap shape_left (sym c.only-in-Open-Texts.ensures)

pub returns-in-Number : goal.returns-in-Number
returns-in-Number c = cc (c.in-Number.is, c.signed.ensures)

pub returns-in-Unsigned : goal.returns-in-Unsigned
returns-in-Unsigned c = cc (c.in-Unsigned.is, c.unsigned.ensures)

pub returns-in-MoreNumbers : goal.returns-in-MoreNumbers
returns-in-MoreNumbers c =
    cc (c.in-MoreNumbers.is, c.number_or_end.ensures)

pub returns-in-Text : goal.returns-in-Text
returns-in-Text c =
    ap (λ place. derivative c.args.symbol (values_left place)) c.in-Text.is
    ∙ one (is Quoted c.args.symbol) (Values listed.MoreTexts)
    ∙ ap shape_left (sym c.only-in-Text.ensures)

pub returns-in-MoreTexts : goal.returns-in-MoreTexts
returns-in-MoreTexts c =
    cc (c.in-MoreTexts.is, c.text_or_end.ensures)

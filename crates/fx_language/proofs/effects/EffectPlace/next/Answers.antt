use Rattle.std.proofs.Common.{◌≡◌, Bool, true, false, cond, Some, None, ap, sym, ◌∙◌, refl}
use Rattle.std.specs.Prelude.{if◌then◌else◌}
use Rattle.fx_language.specs.declared.symbol.Symbol.TheVariants.{Equals, Open, Whole, Minus, Star}
use Rattle.fx_language.specs.Symbols.{is, is_word}
use Rattle.fx_language.specs.Shapes.{Never, Empty, Many, or_else, derivative, ◌▸◌}
use Rattle.fx_language.specs.Grammar.{key, name}
use Rattle.fx_language.specs.declared.state.State.TheVariants.{Effects}
use Rattle.fx_language.specs.declared.effects.EffectList.{EffectList}
use Rattle.fx_language.specs.declared.effects.EffectPlace.TheVariants as place
use Rattle.fx_language.specs.Continuations.{crossed, more_effects, effects_left, shape_left}
use Rattle.fx_language.proofs.Keys.{one}
use Rattle.fx_language.proofs.effects.EffectPlace.next.Goals as goal

-- a name begins a range of names, or a product
first_name : (b : Bool) (list : EffectList)
    → or_else (cond b Empty Never ▸ key Minus ▸ name) (cond b Empty Never ▸ Many (key Star ▸ name) ▸ crossed)
    ▸ more_effects list
    ≡ shape_left (if b then Some (Effects list place.Name) else None)
first_name true list = refl
first_name false list = refl

pub returns-in-Equals : goal.returns-in-Equals
returns-in-Equals c =
    ap (λ place. derivative c.args.symbol (effects_left c.args.list place)) c.in-Equals.is
    ∙ one (is Equals c.args.symbol) (Effects c.args.list place.Open)
    ∙ ap shape_left (sym c.only.ensures)

pub returns-in-Open : goal.returns-in-Open
returns-in-Open c =
    ap (λ place. derivative c.args.symbol (effects_left c.args.list place)) c.in-Open.is
    ∙ one (is Open c.args.symbol) (Effects c.args.list place.First)
    ∙ ap shape_left (sym c.only-in-Open.ensures)

pub returns-in-First : goal.returns-in-First
returns-in-First c =
    ap (λ place. derivative c.args.symbol (effects_left c.args.list place)) c.in-First.is
    ∙ first_name (is_word c.args.symbol) c.args.list
    ∙ ap shape_left (sym c.any_word.ensures)

pub returns-in-Name : goal.returns-in-Name
returns-in-Name c =
    cc (c.in-Name.is, c.behind_name.ensures)

pub returns-in-Range : goal.returns-in-Range
returns-in-Range c =
    ap (λ place. derivative c.args.symbol (effects_left c.args.list place)) c.in-Range.is
    ∙ one (is_word c.args.symbol) (Effects c.args.list place.More)
    ∙ ap shape_left (sym c.any_word-in-Range.ensures)

pub returns-in-Factor : goal.returns-in-Factor
returns-in-Factor c =
    ap (λ place. derivative c.args.symbol (effects_left c.args.list place)) c.in-Factor.is
    ∙ one (is_word c.args.symbol) (Effects c.args.list place.Product)
    ∙ ap shape_left (sym c.any_word-in-Factor.ensures)

pub returns-in-Product : goal.returns-in-Product
returns-in-Product c =
    cc (c.in-Product.is, c.behind_product.ensures)

pub returns-in-Bound : goal.returns-in-Bound
returns-in-Bound c =
    ap (λ place. derivative c.args.symbol (effects_left c.args.list place)) c.in-Bound.is
    ∙ one (is Whole c.args.symbol) (Effects c.args.list place.More)
    ∙ ap shape_left (sym c.only-in-Bound.ensures)

pub returns-in-More : goal.returns-in-More
returns-in-More c =
    cc (c.in-More.is, c.behind_effect.ensures)

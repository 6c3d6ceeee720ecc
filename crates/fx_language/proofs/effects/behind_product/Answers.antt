use Rattle.std.proofs.Common.{◌≡◌, ◌≢◌, ◌∙◌, refl}
use Rattle.fx_language.specs.declared.symbol.Symbol.{Symbol}
use Rattle.fx_language.specs.declared.symbol.Symbol.TheVariants.{Star, Bar, At}
use Rattle.fx_language.specs.Shapes.{derivative}
use Rattle.fx_language.specs.declared.effects.EffectList.{EffectList}
use Rattle.fx_language.specs.declared.effects.EffectPlace.TheVariants as place
use Rattle.fx_language.specs.Continuations.{effects_left}
use Rattle.fx_language.proofs.effects.behind_product.Goals as goal

-- a symbol that continues no product
skipped : (list : EffectList) (s : Symbol) → s ≢ Star → s ≢ Bar → s ≢ At
    → derivative s (effects_left list place.Product) ≡ derivative s (effects_left list place.More)
skipped list Star h k l = absurd (h refl)
skipped list Bar h k l = absurd (k refl)
skipped list At h k l = absurd (l refl)
skipped list s h k l = refl

pub returns-in_default : goal.returns-in_default
returns-in_default c =
    skipped c.args.list c.args.symbol c.in_default.not-Star c.in_default.not-Bar c.in_default.not-At ∙
    c.behind_effect.ensures

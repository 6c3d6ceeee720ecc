use Rattle.std.proofs.Common.{◌≡◌, ◌≢◌, ◌||◌, cond, Some, None, ap, sym, ◌∙◌, refl}
use Rattle.std.specs.Prelude.{if◌then◌else◌}
use Rattle.fx_language.specs.declared.symbol.Symbol.{Symbol}
use Rattle.fx_language.specs.declared.symbol.Symbol.TheVariants.{Whole, Equals}
use Rattle.fx_language.specs.Symbols.{is}
use Rattle.fx_language.specs.Shapes.{Never, Empty, derivative, ◌▸◌}
use Rattle.fx_language.specs.declared.state.State.TheVariants.{StatementEnd, Setting}
use Rattle.fx_language.specs.declared.setting.SettingPlace.TheVariants as setting
use Rattle.fx_language.specs.Continuations.{ending, setting_left, shape_left, extreme_word}
use Rattle.fx_language.proofs.Keys.{one}
use Rattle.fx_language.proofs.setting.SettingPlace.next.Goals as goal

-- a symbol that is no number, where one or a word may stand
word_alone : (s word : Symbol) → s ≢ Whole
    → cond (is Whole s || is word s) Empty Never ▸ ending ≡ shape_left (if is word s then Some StatementEnd else None)
word_alone Whole word h = absurd (h refl)
word_alone s word h = one _ StatementEnd

pub returns-in-Equals : goal.returns-in-Equals
returns-in-Equals c =
    ap (λ place. derivative c.args.symbol (setting_left place)) c.in-Equals.is
    ∙ one (is Equals c.args.symbol) (Setting (setting.Value c.in-Equals.extreme))
    ∙ ap shape_left (sym c.only.ensures)

pub returns-in_default-symbol-2 : goal.returns-in_default-symbol-2
returns-in_default-symbol-2 c =
    let taken = rw c.word.ensures at c.only-in_default-symbol-2.ensures in
    ap (λ place. derivative c.args.symbol (setting_left place)) c.in-Value.is
    ∙ word_alone c.args.symbol (extreme_word c.in-Value.extreme) c.in_default-symbol-2.not-Whole
    ∙ ap shape_left (sym taken)

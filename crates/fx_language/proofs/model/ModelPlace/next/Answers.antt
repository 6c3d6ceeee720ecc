use Rattle.std.proofs.Common.{◌≡◌, ◌≢◌, ap, sym, ◌∙◌, refl}
use Rattle.fx_language.specs.declared.symbol.Symbol.{Symbol}
use Rattle.fx_language.specs.declared.symbol.Symbol.TheVariants.{Nonnegligible, Minabs, Semicolon, Equals}
use Rattle.fx_language.specs.Symbols.{is}
use Rattle.fx_language.specs.Shapes.{derivative}
use Rattle.fx_language.specs.declared.state.State.TheVariants.{Step, Model}
use Rattle.fx_language.specs.declared.model.ModelPlace.TheVariants as model
use Rattle.fx_language.specs.Continuations.{model_left, shape_left}
use Rattle.fx_language.proofs.Keys.{one}
use Rattle.fx_language.proofs.model.ModelPlace.next.Goals as goal

-- a symbol other than the word before a second list
skipped : (s : Symbol) → s ≢ Nonnegligible
    → derivative s (model_left model.Nonnegligible) ≡ derivative s (model_left model.Slash)
skipped Nonnegligible h = absurd (h refl)
skipped s h = refl

pub returns-in_default-symbol : goal.returns-in_default-symbol
returns-in_default-symbol c =
    cc (c.in-Nonnegligible.is, skipped c.args.symbol c.in_default-symbol.not-Nonnegligible, c.option_or_end.ensures)

pub returns-in-Equals : goal.returns-in-Equals
returns-in-Equals c =
    ap (λ place. derivative c.args.symbol (model_left place)) c.in-Equals.is
    ∙ one (is Equals c.args.symbol) (Model model.Resolution)
    ∙ ap shape_left (sym c.only.ensures)

pub returns-in-Slash : goal.returns-in-Slash
returns-in-Slash c =
    cc (c.in-Slash.is, c.option_or_end-in-Slash.ensures)

pub returns-in-Option : goal.returns-in-Option
returns-in-Option c =
    ap (λ place. derivative c.args.symbol (model_left place)) c.in-Option.is
    ∙ one (is Minabs c.args.symbol) (Model model.End)
    ∙ ap shape_left (sym c.only-in-Option.ensures)

pub returns-in-End : goal.returns-in-End
returns-in-End c =
    ap (λ place. derivative c.args.symbol (model_left place)) c.in-End.is
    ∙ one (is Semicolon c.args.symbol) Step
    ∙ ap shape_left (sym c.only-in-End.ensures)

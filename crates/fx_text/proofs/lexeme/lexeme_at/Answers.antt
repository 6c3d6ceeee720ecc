use Rattle.std.proofs.Common.{sym, ap, ◌∙◌}
use Rattle.std.specs.Prelude.{slice_range}
use Rattle.fx_language.specs.declared.symbol.Symbol.{Symbol}
use Rattle.fx_language.specs.declared.symbol.Symbol.TheVariants.{Whole}
use Rattle.fx_language.specs.Symbols.{is}
use Rattle.fx_lexer.specs.declared.token.Token.{Token}
use Rattle.fx_text.specs.Written.{Written}
use Rattle.fx_text.proofs.Wholes.{is_read}
use Rattle.fx_text.proofs.lexeme.lexeme_at.Goals as goal

pub invariant_of-result : goal.invariant_of-result
invariant_of-result c =
    λ e. is_read c.args.text.now c.args.token c.requires.token (ap (is Whole) (sym c.requires.symbol) ∙ e)

pub returns : goal.returns
returns c =
    let t : Token = c.args.token in
    let made = λ (symbol : Symbol). let w : Written =
    record { symbol = symbol; text = slice_range c.args.text.now t.from t.upto; line = t.line; column = t.column }
    in w in
    ap made c.requires.symbol

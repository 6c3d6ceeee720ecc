-- What is written in a text: its words, numbers, quoted texts and signs, each with its place.
use Rattle.std.specs.Prelude.{ℕ, List, [], ◌∷◌, map, slice_range, Bool, false}
use Rattle.fx_lexer.specs.declared.token.Token.{Token}
use Rattle.fx_language.specs.declared.symbol.Symbol.{Symbol}
use Rattle.fx_language.specs.Symbols.{is}
use Rattle.fx_language.specs.Keywords.{symbol_of}

-- a word, number, quoted text or sign: its symbol, its bytes, and the place of its first byte
pub record Written : Type 0 where
  pub symbol : Symbol
  pub text : List ℕ
  pub line : ℕ
  pub column : ℕ

-- what a token of the text is
abbrev pub written_at : List ℕ → Token → Written
written_at text t =
    record {
      symbol = symbol_of t.kind (slice_range text t.from t.upto);
      text = slice_range text t.from t.upto;
      line = t.line;
      column = t.column;
    }

-- what is written in the text, in order
abbrev pub written : List ℕ → List Token → List Written
written text tokens = map (written_at text) tokens

-- it is first
abbrev pub begins : Symbol → List Written → Bool
begins symbol [] = false
begins symbol (w ∷ rest) = is symbol w.symbol

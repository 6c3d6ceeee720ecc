-- What a token is, and how tokens lie in a text.
use Rattle.std.specs.Prelude.{◌≡◌, ℕ, ◌<◌, ◌≤◌, Bool, List, [], ◌∷◌, length, map, take, drop, slice_range, Option, Some}
use Rattle.std.specs.Option.{option_map}
use Rattle.fx_lexer.specs.declared.token.Token.{Token}
use Rattle.fx_lexer.specs.Places.{line_after, column_after}
use Rattle.fx_lexer.specs.TextPieces.{Piece, spelling, kind_of, HasForm, HasAllowedLength}

-- the bytes of a piece that is a token
abbrev pub token_text : Piece → Option (List ℕ)
token_text p = option_map (λ kind. spelling p) (kind_of p)

-- the bytes in the spans of the tokens
abbrev pub spans_of : List ℕ → List Token → List (List ℕ)
spans_of text tokens = map (λ (t : Token). slice_range text t.from t.upto) tokens

-- the token is a piece of the text, of its kind, with the place of its first byte and the span of its bytes
pub record IsToken (text : List ℕ) (t : Token) : Type 0 where
  pub piece : Piece
  pub start : Bool
  pub kind : kind_of piece ≡ Some t.kind
  pub line : t.line ≡ line_after (take t.from text)
  pub column : t.column ≡ column_after (take t.from text)
  pub some : t.from < t.upto
  pub inside : t.upto ≤ length text
  pub bytes : slice_range text t.from t.upto ≡ spelling piece
  pub form : HasForm start piece (drop t.upto text)
  pub short : HasAllowedLength piece

-- the tokens lie between these places, one after another
abbrev pub AreInOrder : ℕ → ℕ → List Token → Type 0
AreInOrder from upto [] = from ≤ upto
AreInOrder from upto (t ∷ tokens) = (from ≤ t.from) × (t.from < t.upto) × AreInOrder t.upto upto tokens

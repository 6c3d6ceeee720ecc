-- What is at fault in a text that has no tokens.
use Rattle.std.specs.Prelude.{◌≡◌, ℕ, nat_le, ◌&&◌, ◌||◌, Bool, true, false, List, [], ◌∷◌, ◌++◌, Contains, IsTrue}
use Rattle.std.specs.Prelude.{codes}
use Rattle.fx_lexer.specs.declared.token.LexFault.{LexFault}
use Rattle.fx_lexer.specs.Bytes.{is_white, is_digit, begins_word, is_sign, is_quote}
use Rattle.fx_lexer.specs.Places.{place_after, IsPlaceIn}
use Rattle.fx_lexer.specs.Lexing.{fault_at}
use Rattle.fx_lexer.specs.TextPieces.{Piece, word, spelling, begins_fraction, HasCommentEnd, EndsQuoted, HasForm}
use Rattle.fx_lexer.specs.TextPieces.{HasAllowedLength, text_of, AreFormed, starts_behind_all}

-- What isn't a piece, with all that follows: a comment, a remark or a quoted text with no end; a byte that begins no
-- item; a piece that is too long.
pub data Flaw : Type 0 where
  open_comment : List ℕ → Flaw
  open_remark : List ℕ → Flaw
  open_quoted : ℕ → List ℕ → Flaw
  stray : ℕ → List ℕ → Flaw
  long_piece : Piece → List ℕ → Flaw

-- the text from the flaw on
abbrev pub flaw_text : Flaw → List ℕ
flaw_text (open_comment inside) = codes "/*" ++ inside
flaw_text (open_remark inside) = codes "*" ++ inside
flaw_text (open_quoted quote inside) = quote ∷ inside
flaw_text (stray b rest) = b ∷ rest
flaw_text (long_piece p rest) = spelling p ++ rest

-- the kind of the fault
abbrev pub fault_kind : Flaw → ℕ
fault_kind (open_comment inside) = 1
fault_kind (open_remark inside) = 1
fault_kind (open_quoted quote inside) = 2
fault_kind (stray b rest) = 3
fault_kind (long_piece (word name) rest) = 5
fault_kind (long_piece _ rest) = 4

-- whether an item begins with this byte, where these bytes follow it
abbrev pub begins_item : ℕ → List ℕ → Bool
begins_item b rest = is_white b || begins_word b || is_digit b || begins_fraction (b ∷ rest) || is_quote b || is_sign b

-- that it is a flaw, where a statement starts here or not: nothing ends what was begun, no item begins here, or the
-- piece is longer than its kind may be
abbrev pub IsFlaw : Bool → Flaw → Type 0
IsFlaw start (open_comment inside) = ¬ HasCommentEnd inside
IsFlaw start (open_remark inside) = IsTrue start × ¬ Contains inside 59
IsFlaw start (open_quoted quote inside) = IsTrue (is_quote quote) × ¬ EndsQuoted quote inside
IsFlaw start (stray b rest) = begins_item b rest ≡ false
IsFlaw start (long_piece p rest) = HasForm start p rest × ¬ HasAllowedLength p

-- the text is pieces up to a flaw, and this is its fault, with the place where the flaw begins
pub record BreaksOff (text : List ℕ) (fault : LexFault) : Type 0 where
  pub pieces : List Piece
  pub flaw : Flaw
  pub joined : text ≡ text_of pieces (flaw_text flaw)
  pub formed : AreFormed true pieces (flaw_text flaw)
  pub form : IsFlaw (starts_behind_all true pieces) flaw
  pub fault_is : fault ≡ fault_at (place_after (text_of pieces [])) (fault_kind flaw)

-- the number of a lexical rule
abbrev pub is_lexical_rule : ℕ → Bool
is_lexical_rule kind = nat_le 1 kind && nat_le kind 5

-- the fault is by such a rule, at a place in the text
pub record IsByLexicalRule (text : List ℕ) (fault : LexFault) : Type 0 where
  pub rule : is_lexical_rule fault.kind ≡ true
  pub place : IsPlaceIn text fault.line fault.column

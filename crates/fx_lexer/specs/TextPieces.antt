-- What a text is made of: pieces, one after another. This says what a text is; Items and Lexing compute it.
use Rattle.std.specs.Prelude.{◌≡◌, ℕ, ◌==◌, ◌<◌, ◌≤◌, ◌&&◌, Bool, true, false, List, [], ◌∷◌, ◌++◌, length, drop}
use Rattle.std.specs.Prelude.{flat_map, Contains, IsTrue, Option, Some, None, if◌then◌else◌, codes}
use Rattle.std.specs.List.{list_all}
use Rattle.fx_lexer.specs.declared.token.Kind.{Kind}
use Rattle.fx_lexer.specs.declared.token.Kind.TheVariants as kind
use Rattle.fx_lexer.specs.declared.token.Token.{Token}
use Rattle.fx_lexer.specs.Bytes.{is_white, is_digit, begins_word, is_word_byte, is_sign, is_quote}
use Rattle.fx_lexer.specs.Extents.{begins_comment, begins_remark, starts_with_byte}
use Rattle.fx_lexer.specs.Places.{place_after}
use Rattle.fx_lexer.specs.Lexing.{tokens_of_kind}

-- A byte of white space; a comment or a remark by what it says; the tokens by what they are made of. A number
-- has digits before its point and after it; a quoted text has its quote and its value.
pub data Piece : Type 0 where
  white : ℕ → Piece
  comment : List ℕ → Piece
  remark : List ℕ → Piece
  word : List ℕ → Piece
  whole : List ℕ → Piece
  decimal : List ℕ → List ℕ → Piece
  quoted : ℕ → List ℕ → Piece
  sign : ℕ → Piece

-- the value with each of its quotes doubled
abbrev pub doubled : ℕ → List ℕ → List ℕ
doubled quote value = flat_map (λ b. if b == quote then quote ∷ quote ∷ [] else b ∷ []) value

-- the bytes of a piece
abbrev pub spelling : Piece → List ℕ
spelling (white b) = b ∷ []
spelling (comment inside) = codes "/*" ++ inside ++ codes "*/"
spelling (remark inside) = codes "*" ++ inside ++ codes ";"
spelling (word name) = name
spelling (whole digits) = digits
spelling (decimal digits fraction) = digits ++ (codes "." ++ fraction)
spelling (quoted quote value) = quote ∷ doubled quote value ++ quote ∷ []
spelling (sign b) = b ∷ []

-- what token a piece is; white space and comments are none
abbrev pub kind_of : Piece → Option Kind
kind_of (white b) = None
kind_of (comment inside) = None
kind_of (remark inside) = None
kind_of (word name) = Some kind.Word
kind_of (whole digits) = Some kind.Whole
kind_of (decimal digits fraction) = Some kind.Decimal
kind_of (quoted quote value) = Some kind.Quoted
kind_of (sign b) = Some kind.Sign

-- whether a statement starts after the piece: after a `;` token, and so on until the next token
abbrev pub starts_behind : Bool → Piece → Bool
starts_behind start (white b) = start
starts_behind start (comment inside) = start
starts_behind start (remark inside) = start
starts_behind start (sign b) = b == 59
starts_behind start _ = false

-- the first byte is of this sort
abbrev pub begins_with : (ℕ → Bool) → List ℕ → Bool
begins_with sort [] = false
begins_with sort (b ∷ bytes) = sort b

-- a point and a digit
abbrev pub begins_fraction : List ℕ → Bool
begins_fraction bytes = starts_with_byte 46 bytes && begins_with is_digit (drop 1 bytes)

-- `*/` is somewhere in these bytes
abbrev pub HasCommentEnd : List ℕ → Type 0
HasCommentEnd bytes = (before : List ℕ) × (behind : List ℕ) × (bytes ≡ before ++ (codes "*/" ++ behind))

-- the bytes after a quote reach its end: a value with its quotes doubled, and a quote that isn't the first of a pair
abbrev pub EndsQuoted : ℕ → List ℕ → Type 0
EndsQuoted quote bytes =
    (value : List ℕ) × (rest : List ℕ) × (bytes ≡ doubled quote value ++ quote ∷ rest)
    × (starts_with_byte quote rest ≡ false)

-- The form of a piece before the bytes `rest`, but for its length. A comment ends with its first `*/`, and a remark,
-- which is allowed only where a statement starts, with its first `;`. Words and digits go on as long as they can. A
-- quote that follows a quoted text would be one of a pair. A `/` or `*` that begins a comment or a remark is no sign.
abbrev pub HasForm : Bool → Piece → List ℕ → Type 0
HasForm start (white b) rest = IsTrue (is_white b)
HasForm start (comment inside) rest = ¬ HasCommentEnd (inside ++ codes "*")
HasForm start (remark inside) rest = IsTrue start × ¬ Contains inside 59
HasForm start (word name) rest =
    IsTrue (begins_with begins_word name) × IsTrue (list_all is_word_byte name)
    × (begins_with is_word_byte rest ≡ false)
HasForm start (whole digits) rest =
    (0 < length digits) × IsTrue (list_all is_digit digits)
    × (begins_with is_digit rest ≡ false) × (begins_fraction rest ≡ false)
HasForm start (decimal digits fraction) rest =
    IsTrue (list_all is_digit digits) × (0 < length fraction) × IsTrue (list_all is_digit fraction)
    × (begins_with is_digit rest ≡ false)
HasForm start (quoted quote value) rest = IsTrue (is_quote quote) × (starts_with_byte quote rest ≡ false)
HasForm start (sign b) rest =
    IsTrue (is_sign b) × (begins_comment (b ∷ rest) ≡ false) × (begins_remark start (b ∷ rest) ≡ false)

-- a word has at most 32 bytes, a number 38
abbrev pub HasAllowedLength : Piece → Type 0
HasAllowedLength (word name) = length name ≤ 32
HasAllowedLength (whole digits) = length digits ≤ 38
HasAllowedLength (decimal digits fraction) = length (digits ++ (codes "." ++ fraction)) ≤ 38
HasAllowedLength _ = Unit {0}

-- the bytes of the pieces, and then the rest
abbrev pub text_of : List Piece → List ℕ → List ℕ
text_of [] rest = rest
text_of (p ∷ pieces) rest = spelling p ++ text_of pieces rest

-- each piece has its form in its place, and isn't too long; `start`: a statement starts with the first one
abbrev pub AreFormed : Bool → List Piece → List ℕ → Type 0
AreFormed start [] rest = Unit {0}
AreFormed start (p ∷ pieces) rest =
    HasForm start p (text_of pieces rest) × HasAllowedLength p × AreFormed (starts_behind start p) pieces rest

-- whether a statement starts after all of them
abbrev pub starts_behind_all : Bool → List Piece → Bool
starts_behind_all start [] = start
starts_behind_all start (p ∷ pieces) = starts_behind_all (starts_behind start p) pieces

-- the tokens among the pieces that follow the bytes `before`, each with the place of its first byte and the span of
-- its bytes
abbrev pub tokens_among : List ℕ → List Piece → List Token
tokens_among before [] = []
tokens_among before (p ∷ pieces) =
    tokens_of_kind (place_after before) (length before) (kind_of p) (length (spelling p))
    ++ tokens_among (before ++ spelling p) pieces

-- the text is pieces, and these are its tokens
pub record IsMadeOf (text : List ℕ) (tokens : List Token) : Type 0 where
  pub pieces : List Piece
  pub joined : text ≡ text_of pieces []
  pub formed : AreFormed true pieces []
  pub tokens_are : tokens ≡ tokens_among [] pieces

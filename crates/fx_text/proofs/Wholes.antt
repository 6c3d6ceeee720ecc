-- The symbol of a number stands only for tokens that are numbers, and that of a word for tokens that are words.
use Rattle.std.proofs.Common.{◌≡◌, ℕ, Bool, true, false, not, List, [], ◌∷◌, ◌++◌, map, Some, refl, sym, ap, ◌∙◌, drop}
use Rattle.std.proofs.Common.{arith}
use Rattle.std.specs.Prelude.{if◌then◌else◌, ◌==◌, slice_index, slice_range}
use Rattle.std.specs.List.{list_all}
use Rattle.std.specs.Char.{to_ascii_lowercase}
use Rattle.std.proofs.lemmas.Bool.{and_parts, not-true}
use Rattle.fx_lexer.specs.declared.token.Kind.{Kind}
use Rattle.fx_lexer.specs.declared.token.Kind.TheVariants as kind
use Rattle.fx_lexer.specs.declared.token.Token.{Token}
use Rattle.fx_lexer.specs.TextPieces.{Piece, word, whole, kind_of, spelling, HasForm, HasAllowedLength}
use Rattle.fx_lexer.specs.Tokens.{IsToken}
use Rattle.fx_language.specs.declared.symbol.Symbol.{Symbol}
use Rattle.fx_language.specs.declared.symbol.Symbol.TheVariants.{Whole, Semicolon, Equals, Open, Close, OpenBracket}
use Rattle.fx_language.specs.declared.symbol.Symbol.TheVariants.{CloseBracket, Slash, Star, Bar, At, Minus}
use Rattle.fx_language.specs.Symbols.{is, is_word}
use Rattle.fx_language.specs.Keywords.{keywords, short_forms, keyword, listed_in, is_same, sign, symbol_of}
use Rattle.fx_text.specs.Written.{written_at}
use Rattle.fx_text.specs.Names.{IsName}
use Rattle.fx_text.specs.Numbers.{IsNumber, IsRead}

-- whichever of two symbols is taken
either : (b : Bool) (x y : Symbol) → is Whole x ≡ false → is Whole y ≡ false → is Whole (if b then x else y) ≡ false
either true x y e f = e
either false x y e f = f

unlisted : (table : List (List ℕ × Symbol)) (bytes : List ℕ)
    → list_all (λ (row : List ℕ × Symbol). not (is Whole row.1)) table ≡ true → is Whole (listed_in table bytes) ≡ false
unlisted [] bytes all = refl
unlisted (row ∷ table) bytes all =
    let both = and_parts (not (is Whole row.1)) _ all in
    either (is_same (map to_ascii_lowercase row.0) (map to_ascii_lowercase bytes)) row.1 (listed_in table bytes)
    (not-true (is Whole row.1) both.0) (unlisted table bytes both.1)

word_is_none : (bytes : List ℕ) → is Whole (keyword bytes) ≡ false
word_is_none bytes = unlisted (keywords ++ short_forms) bytes refl

-- whichever of the signs it is
some_sign : (a b c d e f g h i j : Bool)
    → is Whole
    (if a then Semicolon
    else (if b
    then Equals
    else (if c
    then Open else
    (if d then Close
    else (if e
    then OpenBracket
    else (if f
    then CloseBracket
    else (if g then Slash else (if h then Star else (if i then Bar else (if j then At else Minus))))))))))
    ≡ false
some_sign true b c d e f g h i j = refl
some_sign false true c d e f g h i j = refl
some_sign false false true d e f g h i j = refl
some_sign false false false true e f g h i j = refl
some_sign false false false false true f g h i j = refl
some_sign false false false false false true g h i j = refl
some_sign false false false false false false true h i j = refl
some_sign false false false false false false false true i j = refl
some_sign false false false false false false false false true j = refl
some_sign false false false false false false false false false true = refl
some_sign false false false false false false false false false false = refl

sign_is_none : (b : ℕ) → is Whole (sign b) ≡ false
sign_is_none b =
    some_sign (b == 59) (b == 61) (b == 40) (b == 41) (b == 91) (b == 93) (b == 47) (b == 42) (b == 124) (b == 64)

-- what is known of the tokens of this kind
number_if : (k : Kind) (bytes : List ℕ) → (k ≡ kind.Whole → IsNumber bytes) → is Whole (symbol_of k bytes) ≡ true
    → IsNumber bytes
number_if kind.Word bytes h e = absurd (let f : false ≡ true = sym (word_is_none bytes) ∙ e in cc)
number_if kind.Whole bytes h e = h refl
number_if kind.Decimal bytes h e = absurd (let f : false ≡ true = e in cc)
number_if kind.Quoted bytes h e = absurd (let f : false ≡ true = e in cc)
number_if kind.Sign bytes h e = absurd (let f : false ≡ true = sym (sign_is_none (slice_index bytes 0)) ∙ e in cc)

of_kind : (p : Piece) (start : Bool) (rest : List ℕ) → kind_of p ≡ Some kind.Whole → HasForm start p rest
    → HasAllowedLength p
    → IsNumber (spelling p)
of_kind (whole digits) start rest e form short = (form.1, form.0, short)
of_kind p start rest e form short = absurd (cc e)

pub is_read : (text : List ℕ) (t : Token) → IsToken text t → IsRead (written_at text t)
is_read text t token =
    number_if t.kind (slice_range text t.from t.upto)
    (λ e. rw token.bytes
    (of_kind token.piece token.start (drop t.upto text) (token.kind ∙ ap Some e) token.form token.short))

-- signs are no words
no_name : (a b c d e f g h i j : Bool)
    → is_word (if a then Semicolon else (if b then Equals else (if c then Open else (if d then Close
    else (if e then OpenBracket else (if f then CloseBracket else (if g then Slash else (if h then Star
    else (if i then Bar else (if j then At else Minus)))))))))) ≡ false
no_name true b c d e f g h i j = refl
no_name false true c d e f g h i j = refl
no_name false false true d e f g h i j = refl
no_name false false false true e f g h i j = refl
no_name false false false false true f g h i j = refl
no_name false false false false false true g h i j = refl
no_name false false false false false false true h i j = refl
no_name false false false false false false false true i j = refl
no_name false false false false false false false false true j = refl
no_name false false false false false false false false false true = refl
no_name false false false false false false false false false false = refl

no_word : (b : ℕ) → is_word (sign b) ≡ false
no_word b = no_name (b == 59) (b == 61) (b == 40) (b == 41) (b == 91) (b == 93) (b == 47) (b == 42) (b == 124) (b == 64)

name_if : (k : Kind) (bytes : List ℕ) → (k ≡ kind.Word → IsName bytes) → is_word (symbol_of k bytes) ≡ true
    → IsName bytes
name_if kind.Word bytes h e = h refl
name_if kind.Whole bytes h e = absurd (let f : false ≡ true = e in cc)
name_if kind.Decimal bytes h e = absurd (let f : false ≡ true = e in cc)
name_if kind.Quoted bytes h e = absurd (let f : false ≡ true = e in cc)
name_if kind.Sign bytes h e = absurd (let f : false ≡ true = sym (no_word (slice_index bytes 0)) ∙ e in cc)

a_name : (p : Piece) (start : Bool) (rest : List ℕ) → kind_of p ≡ Some kind.Word → HasForm start p rest
    → HasAllowedLength p
    → IsName (spelling p)
a_name (word []) start rest e form short = absurd (let f : false ≡ true = form.0 in cc)
a_name (word (b ∷ name)) start rest e form short = (omega arith, short, form.1)
a_name p start rest e form short = absurd (cc e)

pub is_name : (text : List ℕ) (t : Token) → IsToken text t → is_word (written_at text t).symbol ≡ true
    → IsName (written_at text t).text
is_name text t token =
    name_if t.kind (slice_range text t.from t.upto)
    (λ e. rw token.bytes
    (a_name token.piece token.start (drop t.upto text) (token.kind ∙ ap Some e) token.form token.short))

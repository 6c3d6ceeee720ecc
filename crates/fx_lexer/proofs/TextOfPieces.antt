-- What is read from pieces.
use Rattle.std.proofs.Common.{◌≡◌, ℕ, ◌+◌, Bool, true, List, [], ◌∷◌, ◌++◌, length, take, Result, Ok, Err, refl}
use Rattle.std.proofs.Common.{ap, ap₂, ◌∙◌, append_assoc, length-append, append-nil, add-zero, arith}
use Rattle.std.proofs.Math.Seq.{take-append_seam}
use Rattle.fx_lexer.specs.declared.token.Token.{Token}
use Rattle.fx_lexer.specs.declared.token.LexFault.{LexFault}
use Rattle.fx_lexer.specs.Places.{place_after}
use Rattle.fx_lexer.specs.Bytes.{begins_word, is_quote}
use Rattle.fx_lexer.specs.Lexing.{lexed, lexed_from, in_front, tokens_of_kind, starts_after, fault_at}
use Rattle.fx_lexer.specs.TextPieces.{Piece, white, comment, remark, word, whole, decimal, quoted, sign, spelling}
use Rattle.fx_lexer.specs.TextPieces.{kind_of, starts_behind, starts_behind_all, HasForm, HasAllowedLength, text_of}
use Rattle.fx_lexer.specs.TextPieces.{AreFormed, tokens_among, IsMadeOf}
use Rattle.fx_lexer.specs.Flaws.{Flaw, open_comment, open_remark, open_quoted, stray, long_piece, flaw_text, fault_kind}
use Rattle.fx_lexer.specs.Flaws.{IsFlaw, BreaksOff}
use Rattle.fx_lexer.proofs.PiecesOfText.{some_bytes, item_passed}
use Rattle.fx_lexer.proofs.NextItem.{in_front_twice}
use Rattle.fx_lexer.proofs.ItemOfPiece.{differs, no_semicolon_number, digit_first, point_or_digit, piece_item}
use Rattle.fx_lexer.proofs.ItemOfPiece.{flaw_item}

-- whether a statement starts after a piece, by its first byte
behind : (start : Bool) (p : Piece) (rest : List ℕ) (b : ℕ) (bytes : List ℕ) → b ∷ bytes ≡ spelling p ++ rest
    → HasForm start p rest
    → starts_after start (record { kind = kind_of p; length = length (spelling p) }) b ≡ starts_behind start p
behind start (white w) rest b bytes joined form = refl
behind start (comment inside) rest b bytes joined form = refl
behind start (remark inside) rest b bytes joined form = refl
behind start (word []) rest b bytes joined form = absurd (cc form.0)
behind start (word (x ∷ name)) rest b bytes joined form =
    let same : b ≡ x = cc joined in
    differs begins_word b 59 (cc) refl
behind start (whole digits) rest b bytes joined form =
    no_semicolon_number b (digit_first start b bytes digits rest form.0 joined form.1)
behind start (decimal digits fraction) rest b bytes joined form =
    no_semicolon_number b
    (point_or_digit start b bytes digits (fraction ++ rest) (cc (append_assoc digits (46 ∷ fraction) rest))
    form.0)
behind start (quoted q value) rest b bytes joined form =
    let same : b ≡ q = cc joined in
    differs is_quote b 59 (cc) refl
behind start (sign s) rest b bytes joined form = let same : b ≡ s = cc joined in cc

module _ (before : List ℕ) (start : Bool) (p : Piece) (rest : List ℕ) (form : HasForm start p rest)
    (short : HasAllowedLength p) where
  one_read : (text bytes : List ℕ) → bytes ≡ spelling p ++ rest → text ≡ before ++ (spelling p ++ rest)
      → lexed_from text 0 start (length before) bytes
      ≡ in_front (tokens_of_kind (place_after before) (length before) (kind_of p) (length (spelling p)))
      (lexed_from text 0 (starts_behind start p) (length before + length (spelling p)) rest)
  one_read text [] joined all =
      absurd (let size = ap length joined in
      omega (arith, some_bytes start p rest form, length-append (spelling p) rest))
  one_read text (b ∷ bytes) joined all =
      let place =
      ap (λ l. place_after (take (length before) l)) all ∙ ap place_after
      (take-append_seam before (spelling p ++ rest)) in
      let past =
      item_passed text (starts_behind start p) (spelling p) rest b bytes (length (spelling p)) (length before)
      joined (some_bytes start p rest form) refl in
      rw (piece_item start p rest b bytes joined form short, behind start p rest b bytes joined form, past, place) refl

none_in_front : (r : Result (List Token) LexFault) → in_front [] r ≡ r
none_in_front (Ok tokens) = refl
none_in_front (Err fault) = refl

-- the pieces are read, and then the rest
pub pieces_read : (pieces : List Piece) (before rest text : List ℕ) (start : Bool) → AreFormed start pieces rest
    → text ≡ before ++ text_of pieces rest
    → lexed_from text 0 start (length before) (text_of pieces rest)
    ≡ in_front (tokens_among before pieces)
    (lexed_from text 0 (starts_behind_all start pieces) (length before + length (text_of pieces [])) rest)
pieces_read [] before rest text start formed all = rw (none_in_front, add-zero) refl
pieces_read (p ∷ pieces) before rest text start formed all =
    let first =
    one_read before start p (text_of pieces rest) formed.0 formed.1 text (spelling p ++ text_of pieces rest) refl
    all in
    let size =
    length-append before (spelling p) in
    let later =
    pieces_read pieces (before ++ spelling p) rest text (starts_behind start p) formed.2
    (cc (append_assoc before (spelling p) (text_of pieces rest))) in
    let far : length before + length (spelling p) + length (text_of pieces [])
    ≡ length before + length (spelling p ++ text_of pieces []) =
    omega (arith, length-append (spelling p) (text_of pieces [])) in
    first ∙ ap (in_front _) (rw (size, far) at later) ∙ in_front_twice _ _ _

pub text_of-append : (pieces : List Piece) (rest : List ℕ) → text_of pieces rest ≡ text_of pieces [] ++ rest
text_of-append [] rest = refl
text_of-append (p ∷ pieces) rest = cc (text_of-append pieces rest, append_assoc (spelling p) (text_of pieces []) rest)

-- a text that is made of pieces has their tokens
pub tokens_read : (text : List ℕ) (tokens : List Token) → IsMadeOf text tokens → lexed text ≡ Ok tokens
unfolding lexed
tokens_read text tokens h =
    cc (pieces_read h.pieces [] [] text true h.formed h.joined, append-nil (tokens_among [] h.pieces))

fault_behind : (text : List ℕ) (start : Bool) (at : ℕ) (flaw : Flaw) (before bytes : List ℕ) → bytes ≡ flaw_text flaw
    → text ≡ before ++ bytes → at ≡ length before → IsFlaw start flaw
    → lexed_from text 0 start at bytes ≡ Err (fault_at (place_after before) (fault_kind flaw))
fault_behind text start at flaw before [] joined all size form = absurd (some_flaw flaw form joined)
  where
    some_flaw : (flaw : Flaw) → IsFlaw start flaw → [] ≡ flaw_text flaw → ⊥
    some_flaw (open_comment inside) form e = cc e
    some_flaw (open_remark inside) form e = cc e
    some_flaw (open_quoted q inside) form e = cc e
    some_flaw (stray s rest) form e = cc e
    some_flaw (long_piece p rest) form e =
        let none = ap length e in
        omega (arith, some_bytes start p rest form.0, length-append (spelling p) rest)
fault_behind text start at flaw before (b ∷ bytes) joined all size form =
    let here = ap₂ take size all ∙ take-append_seam before (b ∷ bytes) in
    rw (flaw_item start flaw b bytes joined form) (cc)

-- a text that breaks off has the fault of its flaw
pub fault_found : (text : List ℕ) (fault : LexFault) → BreaksOff text fault → lexed text ≡ Err fault
unfolding lexed
fault_found text fault h =
    let rest = flaw_text h.flaw in
    let start = starts_behind_all true h.pieces in
    let first = pieces_read h.pieces [] rest text true h.formed h.joined in
    let then =
    fault_behind text start (0 + length (text_of h.pieces [])) h.flaw (text_of h.pieces []) rest refl
    (cc (text_of-append h.pieces rest)) (omega arith) h.form in
    cc

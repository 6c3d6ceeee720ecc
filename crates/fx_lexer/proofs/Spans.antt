-- The tokens among pieces, and where they lie.
use Rattle.std.proofs.Common.{◌≡◌, ℕ, ◌+◌, ◌-◌, ◌<◌, ◌≤◌, Bool, true, List, [], ◌∷◌, ◌++◌, length, drop, map, Option}
use Rattle.std.proofs.Common.{Some, None, Result, Ok, Err, refl, sym, ◌∙◌, append_assoc, length-append}
use Rattle.std.proofs.Common.{append-nil, arith}
use Rattle.std.specs.Prelude.{All, slice_range, filter_map, IfOk}
use Rattle.std.specs.List.{cons_option}
use Rattle.std.specs.Option.{option_map}
use Rattle.std.proofs.Math.Seq.{take-append_seam, drop-append_seam}
use Rattle.std.proofs.lemmas.List.Elements.{All-nil, All-cons, All-append}
use Rattle.fx_lexer.specs.declared.token.Token.{Token}
use Rattle.fx_lexer.specs.declared.token.Kind.{Kind}
use Rattle.fx_lexer.specs.declared.token.LexFault.{LexFault}
use Rattle.fx_lexer.specs.Places.{place_after}
use Rattle.fx_lexer.specs.Lexing.{lexed, token_at, tokens_of_kind}
use Rattle.fx_lexer.specs.TextPieces.{Piece, spelling, kind_of, starts_behind, HasForm, HasAllowedLength, text_of}
use Rattle.fx_lexer.specs.TextPieces.{AreFormed, tokens_among}
use Rattle.fx_lexer.specs.Tokens.{token_text, IsToken, AreInOrder}
use Rattle.fx_lexer.proofs.PiecesOfText.{some_bytes, Whole, text_is}

-- a middle part, by its ends
module _ (before middle behind : List ℕ) (upto : ℕ) (end : upto ≡ length before + length middle) where
  pub middle_range : slice_range (before ++ (middle ++ behind)) (length before) upto ≡ middle
  middle_range =
      let size : upto - length before ≡ length middle = omega arith in
      rw (size, drop-append_seam) (take-append_seam middle behind)

  pub behind_middle : drop upto (before ++ (middle ++ behind)) ≡ behind
  behind_middle =
      let size = end ∙ sym (length-append before middle) in
      rw (size, ← append_assoc) (drop-append_seam (before ++ middle) behind)

module _ (before : List ℕ) (p : Piece) (rest : List ℕ) (start : Bool) (form : HasForm start p rest)
    (short : HasAllowedLength p) where
  token_is : (k : Kind) → kind_of p ≡ Some k
      → IsToken (before ++ (spelling p ++ rest)) (token_at (place_after before) (length before) k (length (spelling p)))
  token_is k is =
      record {
        piece = p;
        start = start;
        kind = is;
        line = cc (take-append_seam before (spelling p ++ rest));
        column = cc (take-append_seam before (spelling p ++ rest));
        some = omega (arith, some_bytes start p rest form);
        inside = omega (arith, length-append before (spelling p ++ rest), length-append (spelling p) rest);
        bytes = middle_range before (spelling p) rest (length before + length (spelling p)) refl;
        form = rw (behind_middle before (spelling p) rest (length before + length (spelling p)) refl) form;
        short = short;
      }

  its_token : (o : Option Kind) → kind_of p ≡ o
      → All (IsToken (before ++ (spelling p ++ rest)))
      (tokens_of_kind (place_after before) (length before) o (length (spelling p)))
  its_token None is = All-nil (IsToken (before ++ (spelling p ++ rest)))
  its_token (Some k) is =
      All-cons (IsToken (before ++ (spelling p ++ rest))) _ [] (token_is k is)
      (All-nil (IsToken (before ++ (spelling p ++ rest))))

pub each_token : (pieces : List Piece) (before : List ℕ) (start : Bool) → AreFormed start pieces []
    → All (IsToken (before ++ text_of pieces [])) (tokens_among before pieces)
each_token [] before start formed = All-nil (IsToken (before ++ []))
each_token (p ∷ pieces) before start formed =
    let first = its_token before p (text_of pieces []) start formed.0 formed.1 (kind_of p) refl in
    let later = each_token pieces (before ++ spelling p) (starts_behind start p) formed.2 in
    All-append (IsToken (before ++ (spelling p ++ text_of pieces []))) _ _ first (rw append_assoc at later)

-- the tokens of a text are pieces of it
pub each_of_text : (text : List ℕ) → IfOk (lexed text) (λ tokens. All (IsToken text) tokens)
each_of_text text = by (lexed text) (text_is text)
  where
    by : (r : Result (List Token) LexFault) → Whole text r → IfOk r (λ tokens. All (IsToken text) tokens)
    by (Ok tokens) h = rw (h.joined, h.tokens_are) (each_token h.pieces [] true h.formed)
    by (Err fault) h = tt

module _ (before : List ℕ) (p : Piece) (rest : List ℕ) where
  text_first : (o : Option Kind) (tokens : List Token) (texts : List (List ℕ))
      → map (λ (t : Token). slice_range (before ++ (spelling p ++ rest)) t.from t.upto) tokens ≡ texts
      → map (λ (t : Token). slice_range (before ++ (spelling p ++ rest)) t.from t.upto)
      (tokens_of_kind (place_after before) (length before) o (length (spelling p)) ++ tokens)
      ≡ cons_option (option_map (λ k. spelling p) o) texts
  text_first None tokens texts e = e
  text_first (Some k) tokens texts e =
      cc (middle_range before (spelling p) rest (length before + length (spelling p)) refl)

-- the bytes of their spans are those of the pieces
pub texts_among : (pieces : List Piece) (before : List ℕ)
    → map (λ (t : Token). slice_range (before ++ text_of pieces []) t.from t.upto) (tokens_among before pieces)
    ≡ filter_map token_text pieces
texts_among [] before = refl
texts_among (p ∷ pieces) before =
    text_first before p (text_of pieces []) (kind_of p) (tokens_among (before ++ spelling p) pieces)
    (filter_map token_text pieces)
    (rw append_assoc at (texts_among pieces (before ++ spelling p)))

order_sooner : (tokens : List Token) (from sooner upto : ℕ) → sooner ≤ from → AreInOrder from upto tokens
    → AreInOrder sooner upto tokens
order_sooner [] from sooner upto e h = omega arith
order_sooner (t ∷ tokens) from sooner upto e h = (omega arith, h.1, h.2)

order_first : (before : List ℕ) (p : Piece) (upto : ℕ) (o : Option Kind) (tokens : List Token)
    → 0 < length (spelling p)
    → AreInOrder (length before + length (spelling p)) upto tokens
    → AreInOrder (length before) upto
    (tokens_of_kind (place_after before) (length before) o (length (spelling p)) ++ tokens)
order_first before p upto None tokens some h =
    order_sooner tokens (length before + length (spelling p)) (length before) upto (omega arith) h
order_first before p upto (Some k) tokens some h = (omega arith, omega arith, h)

-- they stand in order
pub in_order : (pieces : List Piece) (before : List ℕ) (start : Bool) → AreFormed start pieces []
    → AreInOrder (length before) (length (before ++ text_of pieces [])) (tokens_among before pieces)
in_order [] before start formed = rw append-nil (omega arith)
in_order (p ∷ pieces) before start formed =
    let later = in_order pieces (before ++ spelling p) (starts_behind start p) formed.2 in
    order_first before p (length (before ++ (spelling p ++ text_of pieces []))) (kind_of p) _
    (some_bytes start p (text_of pieces []) formed.0)
    (rw (append_assoc, length-append before (spelling p)) at later)

pub in_order_of_text : (text : List ℕ) → IfOk (lexed text) (λ tokens. AreInOrder 0 (length text) tokens)
in_order_of_text text = by (lexed text) (text_is text)
  where
    by : (r : Result (List Token) LexFault) → Whole text r → IfOk r (λ tokens. AreInOrder 0 (length text) tokens)
    by (Ok tokens) h = rw (h.joined, h.tokens_are) (in_order h.pieces [] true h.formed)
    by (Err fault) h = tt

pub texts_of_text : (text : List ℕ) (pieces : List Piece) → text ≡ text_of pieces []
    → map (λ (t : Token). slice_range text t.from t.upto) (tokens_among [] pieces) ≡ filter_map token_text pieces
texts_of_text text pieces e = rw e (texts_among pieces [])

-- What a text is: its pieces, or pieces up to a flaw.
use Rattle.std.proofs.Common.{◌≡◌, ℕ, zero, suc, ◌+◌, ◌-◌, ◌<◌, ◌≤◌, Bool, true, List, [], ◌∷◌, ◌++◌, length, take}
use Rattle.std.proofs.Common.{Result, Ok, Err, refl, ap, subst, ◌∙◌, append_assoc, length-append, append-nil}
use Rattle.std.proofs.Common.{add-zero, arith}
use Rattle.std.proofs.Math.Seq.{take-append_seam}
use Rattle.fx_lexer.specs.declared.item.Item.{Item}
use Rattle.fx_lexer.specs.declared.token.Token.{Token}
use Rattle.fx_lexer.specs.declared.token.LexFault.{LexFault}
use Rattle.fx_lexer.specs.Places.{place_after}
use Rattle.fx_lexer.specs.Items.{first_item}
use Rattle.fx_lexer.specs.Lexing.{lexed, lexed_from, in_front, at_item, tokens_of, starts_after, fault_at}
use Rattle.fx_lexer.specs.Bytes.{begins_word}
use Rattle.fx_lexer.specs.TextPieces.{Piece, white, comment, remark, word, whole, decimal, quoted, sign, begins_with}
use Rattle.fx_lexer.specs.TextPieces.{spelling, starts_behind, starts_behind_all, HasForm, text_of, AreFormed}
use Rattle.fx_lexer.specs.TextPieces.{tokens_among, IsMadeOf}
use Rattle.fx_lexer.specs.Flaws.{Flaw, flaw_text, fault_kind, IsFlaw, BreaksOff}
use Rattle.fx_lexer.proofs.PieceOfItem.{IsPiece, ItemIs, item_is}

-- a piece has a byte
pub some_bytes : (start : Bool) (p : Piece) (rest : List ℕ) → HasForm start p rest → 0 < length (spelling p)
some_bytes start (white b) rest form = omega arith
some_bytes start (comment inside) rest form = omega arith
some_bytes start (remark inside) rest form = omega arith
some_bytes start (word name) rest form = named name form.0
  where
    named : (name : List ℕ) → begins_with begins_word name ≡ true → 0 < length name
    named [] e = absurd (cc e)
    named (b ∷ name) e = omega arith
some_bytes start (whole digits) rest form = form.0
some_bytes start (decimal digits fraction) rest form = omega (arith, length-append digits (46 ∷ fraction))
some_bytes start (quoted quote value) rest form = omega arith
some_bytes start (sign b) rest form = omega arith

-- the bytes of an item are passed over
pub passed : (text : List ℕ) (start : Bool) (front rest : List ℕ) (at : ℕ)
    → lexed_from text (length front) start at (front ++ rest) ≡ lexed_from text 0 start (at + length front) rest
passed text start [] rest at = rw add-zero refl
passed text start (x ∷ front) rest at =
    let e : at + 1 + length front ≡ at + suc (length front) = omega arith in
    cc (passed text start front rest (at + 1))

pub item_passed : (text : List ℕ) (start : Bool) (front rest : List ℕ) (b : ℕ) (bytes : List ℕ) (n at : ℕ)
    → b ∷ bytes ≡ front ++ rest → 0 < length front → n ≡ length front
    → lexed_from text (n - 1) start (at + 1) bytes ≡ lexed_from text 0 start (at + n) rest
item_passed text start [] rest b bytes n at joined some long = absurd (omega arith)
item_passed text start (x ∷ front) rest b bytes n at joined some long =
    let e : n - 1 ≡ length front = omega arith in
    let f : bytes ≡ front ++ rest = cc in
    let g : at + 1 + length front ≡ at + n = omega arith in
    rw (e, f) (cc (passed text start front rest (at + 1)))

-- after the bytes `before`, the rest is pieces with these tokens
pub record Taken (before rest : List ℕ) (start : Bool) (tokens : List Token) : Type 0 where
  pub pieces : List Piece
  pub joined : rest ≡ text_of pieces []
  pub formed : AreFormed start pieces []
  pub tokens_are : tokens ≡ tokens_among before pieces

-- or pieces up to a flaw
pub record Broken (before rest : List ℕ) (start : Bool) (fault : LexFault) : Type 0 where
  pub pieces : List Piece
  pub flaw : Flaw
  pub joined : rest ≡ text_of pieces (flaw_text flaw)
  pub formed : AreFormed start pieces (flaw_text flaw)
  pub form : IsFlaw (starts_behind_all start pieces) flaw
  pub fault_is : fault ≡ fault_at (place_after (before ++ text_of pieces [])) (fault_kind flaw)

abbrev pub Outcome : List ℕ → List ℕ → Bool → Result (List Token) LexFault → Type 0
Outcome before rest start (Ok tokens) = Taken before rest start tokens
Outcome before rest start (Err fault) = Broken before rest start fault

module _ (before : List ℕ) (start : Bool) (b : ℕ) (bytes : List ℕ) where
  one_more : (it : Item) (h : IsPiece start b bytes it) (r : Result (List Token) LexFault)
      → Outcome (before ++ spelling h.piece) h.rest (starts_behind start h.piece) r
      → Outcome before (b ∷ bytes) start (in_front (tokens_of (place_after before) (length before) it) r)
  one_more it h (Ok tokens) t =
      record {
        pieces = h.piece ∷ t.pieces;
        joined = cc;
        formed = (rw t.joined at h.form, h.short, t.formed);
        tokens_are = rw (h.kind, h.long, t.tokens_are) refl;
      }
  one_more it h (Err fault) t =
      record {
        pieces = h.piece ∷ t.pieces;
        flaw = t.flaw;
        joined = cc;
        formed = (rw t.joined at h.form, h.short, t.formed);
        form = t.form;
        fault_is = t.fault_is ∙ rw append_assoc refl;
      }

  place_here : place_after (take (length before) (before ++ b ∷ bytes)) ≡ place_after before
  place_here = cc (take-append_seam before (b ∷ bytes))

  -- the item at hand and then the rest, of which `later` tells
  from_item : (n : ℕ) → length (b ∷ bytes) ≤ suc n
      → ((before rest : List ℕ) (start : Bool) → length rest ≤ n
      → Outcome before rest start (lexed_from (before ++ rest) 0 start (length before) rest))
      → (r : Result Item ℕ) → ItemIs start b bytes r
      → Outcome before (b ∷ bytes) start
      (at_item (fault_at (place_after before))
      (λ i. in_front (tokens_of (place_after before) (length before) i)
      (lexed_from (before ++ b ∷ bytes) (i.length - 1) (starts_after start i b) (length before + 1) bytes))
      r)
  from_item n few later (Err k) h =
      record {
        pieces = [];
        flaw = h.flaw;
        joined = h.joined;
        formed = tt;
        form = h.form;
        fault_is = rw (append-nil, h.kind) refl;
      }
  from_item n few later (Ok it) h =
      let some = some_bytes start h.piece h.rest h.form in
      let size = ap length h.joined in
      let fewer : length h.rest ≤ n = omega (arith, length-append (spelling h.piece) h.rest) in
      let then = later (before ++ spelling h.piece) h.rest (starts_behind start h.piece) fewer in
      let text : (before ++ spelling h.piece) ++ h.rest ≡ before ++ b ∷ bytes =
      cc (append_assoc before (spelling h.piece) h.rest) in
      let place : length (before ++ spelling h.piece) ≡ length before + it.length =
      omega (arith, length-append before (spelling h.piece)) in
      let past =
      item_passed (before ++ b ∷ bytes) (starts_behind start h.piece) (spelling h.piece) h.rest b bytes it.length
      (length before) h.joined some h.long in
      rw (h.behind, past) (one_more it h _ (rw (text, place) at then))

pub outcome : (n : ℕ) (before rest : List ℕ) (start : Bool) → length rest ≤ n
    → Outcome before rest start (lexed_from (before ++ rest) 0 start (length before) rest)
outcome n before [] start few = record { pieces = []; joined = refl; formed = tt; tokens_are = refl }
outcome zero before (b ∷ bytes) start few = absurd (omega arith)
outcome (suc n) before (b ∷ bytes) start few =
    rw (place_here before start b bytes)
    (from_item before start b bytes n few (outcome n) (first_item start (b ∷ bytes)) (item_is start b bytes))

abbrev pub Whole : List ℕ → Result (List Token) LexFault → Type 0
Whole text (Ok tokens) = IsMadeOf text tokens
Whole text (Err fault) = BreaksOff text fault

whole_of : (text : List ℕ) (r : Result (List Token) LexFault) → Outcome [] text true r → Whole text r
whole_of text (Ok tokens) h =
    record { pieces = h.pieces; joined = h.joined; formed = h.formed; tokens_are = h.tokens_are }
whole_of text (Err fault) h =
    record {
      pieces = h.pieces;
      flaw = h.flaw;
      joined = h.joined;
      formed = h.formed;
      form = h.form;
      fault_is = h.fault_is;
    }

-- the tokens or the fault of a text are those of its pieces
pub text_is : (text : List ℕ) → Whole text (lexed text)
unfolding lexed
text_is text = whole_of text (lexed text) (outcome (length text) [] text true (omega arith))

pub made_of : (text : List ℕ) (tokens : List Token) → lexed text ≡ Ok tokens → IsMadeOf text tokens
made_of text tokens e = let P : Result (List Token) LexFault → Type 0 = λ r. Whole text r in subst P e (text_is text)

pub breaks_off : (text : List ℕ) (fault : LexFault) → lexed text ≡ Err fault → BreaksOff text fault
breaks_off text fault e =
    let P : Result (List Token) LexFault → Type 0 = λ r. Whole text r in
    subst P e (text_is text)

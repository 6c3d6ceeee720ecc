-- The tokens of a text and its first fault are at places of the text.
use Rattle.std.proofs.Common.{◌≡◌, ℕ, true, List, [], ◌∷◌, ◌++◌, length, Option, Some, None, Ok, Err, refl, sym, subst}
use Rattle.std.proofs.Common.{append_assoc}
use Rattle.std.specs.List.{AllByRecursion}
use Rattle.fx_lexer.specs.declared.token.Token.{Token}
use Rattle.fx_lexer.specs.declared.token.Kind.{Kind}
use Rattle.fx_lexer.specs.declared.token.LexFault.{LexFault}
use Rattle.fx_lexer.specs.Places.{place_after, IsPlaceIn}
use Rattle.fx_lexer.specs.Lexing.{tokens_of_kind, lexed}
use Rattle.fx_lexer.specs.TextPieces.{Piece, spelling, kind_of, text_of, tokens_among, word, whole, white, comment}
use Rattle.fx_lexer.specs.TextPieces.{remark, decimal, quoted, sign}
use Rattle.fx_lexer.specs.Flaws.{Flaw, open_comment, open_remark, open_quoted, stray, long_piece, flaw_text, fault_kind}
use Rattle.fx_lexer.specs.Flaws.{is_lexical_rule, IsByLexicalRule}
use Rattle.fx_lexer.proofs.PiecesOfText.{made_of, breaks_off}
use Rattle.fx_lexer.proofs.TextOfPieces.{text_of-append}

tokens : (text before : List ℕ) (pieces : List Piece) → text ≡ before ++ text_of pieces []
    → AllByRecursion (λ (t : Token). IsPlaceIn text t.line t.column) (tokens_among before pieces)
tokens text before [] e = tt
tokens text before (p ∷ pieces) e =
    of_kind (kind_of p)
    (tokens text (before ++ spelling p) pieces (cc (append_assoc before (spelling p) (text_of pieces []))))
  where
    of_kind : (kind : Option Kind)
        → AllByRecursion (λ (t : Token). IsPlaceIn text t.line t.column) (tokens_among (before ++ spelling p) pieces)
        → AllByRecursion (λ (t : Token). IsPlaceIn text t.line t.column)
        (tokens_of_kind (place_after before) (length before) kind (length (spelling p))
        ++ tokens_among (before ++ spelling p) pieces)
    of_kind None later = later
    of_kind (Some k) later = (
      record { before = before; after = text_of (p ∷ pieces) []; joined = e; line_is = refl; column_is = refl },
      later,
    )

pub tokens_placed : (text : List ℕ) (all : List Token) → lexed text ≡ Ok all
    → AllByRecursion (λ (t : Token). IsPlaceIn text t.line t.column) all
tokens_placed text all e =
    let made = made_of text all e in
    rw made.tokens_are (tokens text [] made.pieces made.joined)

kinds : (flaw : Flaw) → is_lexical_rule (fault_kind flaw) ≡ true
kinds (open_comment inside) = refl
kinds (open_remark inside) = refl
kinds (open_quoted quote inside) = refl
kinds (stray b rest) = refl
kinds (long_piece (word name) rest) = refl
kinds (long_piece (white b) rest) = refl
kinds (long_piece (comment inside) rest) = refl
kinds (long_piece (remark inside) rest) = refl
kinds (long_piece (whole digits) rest) = refl
kinds (long_piece (decimal digits fraction) rest) = refl
kinds (long_piece (quoted quote value) rest) = refl
kinds (long_piece (sign b) rest) = refl

pub fault_placed : (text : List ℕ) (fault : LexFault) → lexed text ≡ Err fault → IsByLexicalRule text fault
fault_placed text fault e =
    let broken = breaks_off text fault e in
    subst (IsByLexicalRule text) (sym broken.fault_is) (record {
      rule = kinds broken.flaw;
      place = record {
        before = text_of broken.pieces [];
        after = flaw_text broken.flaw;
        joined = cc (text_of-append broken.pieces (flaw_text broken.flaw));
        line_is = refl;
        column_is = refl;
      };
    })

-- The text of `make` in words, numbers and signs.
use Rattle.std.proofs.Common.{ℕ, ◌≡◌, ◌<◌, ◌≤◌, ◌+◌, ◌%◌, zero, suc, Bool, true, false, not, ◌&&◌, List, [], ◌∷◌, ◌++◌}
use Rattle.std.proofs.Common.{length, refl, sym, subst, arith, Ok, inl, inr}
use Rattle.std.specs.Fmt.{digits}
use Rattle.std.specs.Prelude.{nat_lt, nat_le, codes, decimal, ◌==◌}
use Rattle.std.specs.List.{AllByRecursion, list_all, flat_map, range_with_len}
use Rattle.std.proofs.lemmas.Bool.{and_parts, cases_eq, ltb-true, leb-true, not-true}
use Rattle.fx_lexer.specs.Bytes.{is_white, is_digit, begins_word, is_word_byte, is_sign}
use Rattle.fx_lexer.specs.Extents.{begins_comment, begins_remark}
use Rattle.fx_lexer.specs.Lexing.{lexed}
use Rattle.fx_lexer.specs.TextPieces.{Piece, white, comment, remark, word, whole, decimal as decimal_piece, quoted}
use Rattle.fx_lexer.specs.TextPieces.{sign, HasForm, HasAllowedLength, AreFormed, starts_behind}
use Rattle.fx_lexer.specs.TextPieces.{starts_behind_all, begins_with, begins_fraction, text_of, tokens_among}
use Rattle.fx_lexer.proofs.TextOfPieces.{tokens_read}
use Rattle.fx_program.specs.Making.{made_factors, made_levels, made_runs, made_text, step_text}

-- ---- the form of pieces, decided

-- whether a piece has its form; quoted texts, comments and points are not made
abbrev has_form : Bool → Piece → List ℕ → Bool
has_form start (white b) rest = is_white b
has_form start (comment inside) rest = false
has_form start (remark inside) rest = false
has_form start (word name) rest =
    begins_with begins_word name && (list_all is_word_byte name && not (begins_with is_word_byte rest))
has_form start (whole digits) rest =
    nat_lt 0 (length digits)
    && (list_all is_digit digits && (not (begins_with is_digit rest) && not (begins_fraction rest)))
has_form start (decimal_piece digits fraction) rest = false
has_form start (quoted quote value) rest = false
has_form start (sign b) rest = is_sign b && (not (begins_comment (b ∷ rest)) && not (begins_remark start (b ∷ rest)))

abbrev is_short : Piece → Bool
is_short (white b) = true
is_short (comment inside) = true
is_short (remark inside) = true
is_short (word name) = nat_le (length name) 32
is_short (whole digits) = nat_le (length digits) 38
is_short (decimal_piece digits fraction) = false
is_short (quoted quote value) = true
is_short (sign b) = true

abbrev are_formed : Bool → List Piece → List ℕ → Bool
are_formed start [] rest = true
are_formed start (p ∷ pieces) rest =
    has_form start p (text_of pieces rest) && (is_short p && are_formed (starts_behind start p) pieces rest)

form_decided : (start : Bool) (p : Piece) (rest : List ℕ) → has_form start p rest ≡ true → HasForm start p rest
form_decided start (white b) rest e = e
form_decided start (comment inside) rest e = cc e
form_decided start (remark inside) rest e = cc e
form_decided start (word name) rest e =
    let a = and_parts _ _ e in
    let b = and_parts _ _ a.1 in
    (a.0, b.0, not-true _ b.1)
form_decided start (whole digits) rest e =
    let a = and_parts _ _ e in
    let b = and_parts _ _ a.1 in
    let c = and_parts _ _ b.1 in
    (ltb-true 0 _ a.0, b.0, not-true _ c.0, not-true _ c.1)
form_decided start (decimal_piece digits fraction) rest e = cc e
form_decided start (quoted quote value) rest e = cc e
form_decided start (sign b) rest e =
    let a = and_parts _ _ e in
    let c = and_parts _ _ a.1 in
    (a.0, not-true _ c.0, not-true _ c.1)

short_decided : (p : Piece) → is_short p ≡ true → HasAllowedLength p
short_decided (white b) e = tt
short_decided (comment inside) e = tt
short_decided (remark inside) e = tt
short_decided (word name) e = leb-true _ 32 e
short_decided (whole digits) e = leb-true _ 38 e
short_decided (decimal_piece digits fraction) e = cc e
short_decided (quoted quote value) e = tt
short_decided (sign b) e = tt

formed_decided : (start : Bool) (pieces : List Piece) (rest : List ℕ) → are_formed start pieces rest ≡ true
    → AreFormed start pieces rest
formed_decided start [] rest e = tt
formed_decided start (p ∷ pieces) rest e =
    let a = and_parts _ _ e in
    let b = and_parts _ _ a.1 in (
      form_decided start p _ a.0,
      short_decided p b.0,
      formed_decided (starts_behind start p) pieces
          rest b.1,
    )

-- ---- pieces after pieces

pub text-append : (ps qs : List Piece) (rest : List ℕ) → text_of (ps ++ qs) rest ≡ text_of ps (text_of qs rest)
text-append [] qs rest = refl
text-append (p ∷ ps) qs rest = cc (text-append ps qs rest)

formed-append : (start : Bool) (ps qs : List Piece) (rest : List ℕ) → AreFormed start ps (text_of qs rest)
    → AreFormed (starts_behind_all start ps) qs rest → AreFormed start (ps ++ qs) rest
formed-append start [] qs rest first second = second
formed-append start (p ∷ ps) qs rest first second = (
  subst (HasForm start p) (sym (text-append ps qs rest)) first.0,
  first.1,
  formed-append (starts_behind start p) ps
      qs rest first.2 second,
)

-- ---- the pieces of a step

abbrev blank : Piece
blank = white 32

abbrev line_end : Piece
line_end = white 10

abbrev model_end : Bool → List Piece
model_end true = blank ∷ sign 47 ∷ blank ∷ word (codes "minabs") ∷ sign 59 ∷ line_end ∷ []
model_end false = sign 59 ∷ line_end ∷ []

abbrev proc_pieces : List Piece
proc_pieces =
    word (codes "proc") ∷ blank ∷ word (codes "factex") ∷ blank ∷ word (codes "nodes") ∷ sign 61 ∷ whole (codes "20000")
    ∷ sign 59 ∷ line_end ∷ []

abbrev factors_pieces : List ℕ → List ℕ → List Piece
factors_pieces last levels =
    word (codes "factors") ∷ blank ∷ word (codes "X1") ∷ sign 45 ∷ word (codes "X" ++ last) ∷ blank ∷ sign 47 ∷ blank
    ∷ word (codes "nlev") ∷ sign 61 ∷ whole levels ∷ sign 59 ∷ line_end ∷ []

abbrev size_pieces : List ℕ → List Piece
size_pieces runs = word (codes "size") ∷ blank ∷ word (codes "design") ∷ sign 61 ∷ whole runs ∷ sign 59 ∷ line_end ∷ []

abbrev model_pieces : Bool → List Piece
model_pieces least =
    word (codes "model") ∷ blank ∷ word (codes "resolution") ∷ sign 61 ∷ word (codes "max") ∷ model_end least

abbrev run_pieces : List Piece
run_pieces = word (codes "run") ∷ sign 59 ∷ line_end ∷ []

-- those of the step of this number, of twelve kinds
abbrev pub step_pieces : ℕ → List Piece
step_pieces r =
    proc_pieces
    ++ (factors_pieces (decimal (made_factors r)) (decimal (made_levels r))
    ++ (size_pieces (decimal (made_runs r)) ++ (model_pieces (r % 4 == 0) ++ run_pieces)))

-- what holds for the numbers below n
pub each_below : (P : ℕ → Type 0) (a n : ℕ) → AllByRecursion P (range_with_len a n) → (r : ℕ) → a ≤ r → r < a + n → P r
each_below P a zero all r low high = absurd (omega arith)
each_below P a (suc n) all r low high =
    elim (cases_eq r a)
    [ inl here ↦ subst P (sym here) all.0 | inr other ↦ each_below P (a + 1) n all.1 r (omega arith) (omega arith) ]

step_is : (r : ℕ) → r < 12 → (rest : List ℕ) → text_of (step_pieces r) rest ≡ step_text r ++ rest
unfolding digits
step_is r low =
    each_below (λ r. (rest : List ℕ) → text_of (step_pieces r) rest ≡ step_text r ++ rest) 0 12 (
      λ rest. refl,
      (
        λ rest. refl,
        (
          λ rest. refl,
          (
            λ rest. refl,
            (
              λ rest. refl,
              (
                λ rest. refl,
                (
                  λ rest. refl,
                  (λ rest. refl, (λ rest. refl, (λ rest. refl, (λ rest. refl, (λ rest. refl, tt))))),
                ),
              ),
            ),
          ),
        ),
      ),
    )
    r (omega arith) (omega arith)

step_formed : (r : ℕ) → r < 12 → (rest : List ℕ) → are_formed true (step_pieces r) rest ≡ true
unfolding digits
step_formed r low =
    each_below (λ r. (rest : List ℕ) → are_formed true (step_pieces r) rest ≡ true) 0 12 (
      λ rest. refl,
      (
        λ rest. refl,
        (
          λ rest. refl,
          (
            λ rest. refl,
            (
              λ rest. refl,
              (
                λ rest. refl,
                (
                  λ rest. refl,
                  (λ rest. refl, (λ rest. refl, (λ rest. refl, (λ rest. refl, (λ rest. refl, tt))))),
                ),
              ),
            ),
          ),
        ),
      ),
    )
    r (omega arith) (omega arith)

step_ends : (r : ℕ) → r < 12 → starts_behind_all true (step_pieces r) ≡ true
unfolding digits
step_ends r low =
    each_below (λ r. starts_behind_all true (step_pieces r) ≡ true) 0 12
    (refl, (refl, (refl, (refl, (refl, (refl, (refl, (refl, (refl, (refl, (refl, (refl, tt))))))))))))
    r (omega arith) (omega arith)

-- the kind of a step is the rest of its number by 12
pub same_kind : (k : ℕ) → step_text k ≡ step_text (k % 12)
same_kind k =
    let three : k % 12 % 3 ≡ k % 3 = omega arith in
    let two : k % 12 % 2 ≡ k % 2 = omega arith in
    let four : k % 12 % 4 ≡ k % 4 = omega arith in
    let six : k % 12 % 6 ≡ k % 6 = omega arith in
    rw (three, two, four, six)

-- the pieces of the steps of these numbers
abbrev pub pieces_of : List ℕ → List Piece
pieces_of ks = flat_map (λ (k : ℕ). step_pieces (k % 12)) ks

pieces_text : (ks : List ℕ) → text_of (pieces_of ks) [] ≡ flat_map step_text ks
pieces_text [] = refl
pieces_text (k ∷ ks) =
    cc (
      text-append (step_pieces (k % 12)) (pieces_of ks) [],
      step_is (k % 12) (omega arith)
          (text_of (pieces_of ks) []),
      same_kind k,
      pieces_text ks,
    )

pieces_formed : (ks : List ℕ) → AreFormed true (pieces_of ks) []
pieces_formed [] = tt
pieces_formed (k ∷ ks) =
    formed-append true (step_pieces (k % 12)) _ []
    (formed_decided true (step_pieces (k % 12)) (text_of (pieces_of ks) [])
    (step_formed (k % 12) (omega arith) (text_of (pieces_of ks) [])))
    (rw (← (step_ends (k % 12) (omega arith))) at (pieces_formed ks))

-- the tokens of the text
pub made_tokens : (n : ℕ)
    → (made_text n ≡ text_of (pieces_of (range_with_len 1 n)) [])
    × (lexed (made_text n) ≡ Ok (tokens_among [] (pieces_of (range_with_len 1 n))))
unfolding made_text
made_tokens n =
    let ks = range_with_len 1 n in
    let joined = sym (pieces_text ks) in (
      joined,
      tokens_read _ _
          (record { pieces = pieces_of ks; joined = joined; formed = pieces_formed ks; tokens_are = refl }),
    )

-- What the item that a text begins with is: a piece, or a flaw.
use Rattle.std.proofs.Common.{◌≡◌, ℕ, suc, ◌+◌, ◌<◌, ◌≤◌, Bool, true, false, List, [], ◌∷◌, ◌++◌, length, drop}
use Rattle.std.proofs.Common.{Option, Some, None, Result, Ok, Err, refl, sym, ap, subst, ◌∙◌, inl, inr, append_assoc}
use Rattle.std.proofs.Common.{length-append, arith}
use Rattle.std.specs.Prelude.{◌==◌, nat_le, if◌then◌else◌, IsTrue}
use Rattle.std.specs.List.{prefix_len, list_all}
use Rattle.std.specs.Option.{option_map}
use Rattle.std.proofs.lemmas.Bool.{eqb-true, eq-eqb, leb-true, leb-false, ltb-false, ltb-true, or_from, cases_Bool}
use Rattle.std.proofs.lemmas.Bool.{and_parts}
use Rattle.std.proofs.Math.Seq.{drop-append_seam}
use Rattle.fx_lexer.specs.declared.token.Kind.{Kind}
use Rattle.fx_lexer.specs.declared.token.Kind.TheVariants as kind
use Rattle.fx_lexer.specs.declared.item.Item.{Item}
use Rattle.fx_lexer.specs.Bytes.{is_white, is_digit, begins_word, is_word_byte, is_sign, is_quote}
use Rattle.fx_lexer.specs.Extents.{begins_comment, begins_remark, starts_with_byte, closing_len, remark_len}
use Rattle.fx_lexer.specs.Extents.{fraction_len, quoted_len}
use Rattle.fx_lexer.specs.Items.{first_item, token, gap, comment_if_closed, quoted_if_closed, limited, item_of_number}
use Rattle.fx_lexer.specs.Items.{begins_number}
use Rattle.fx_lexer.specs.Lexing.{starts_after}
use Rattle.fx_lexer.specs.TextPieces.{Piece, white, comment, remark, word, whole, decimal, quoted, sign, begins_with}
use Rattle.fx_lexer.specs.TextPieces.{begins_fraction, doubled, spelling, kind_of, starts_behind, HasForm}
use Rattle.fx_lexer.specs.TextPieces.{HasAllowedLength}
use Rattle.fx_lexer.specs.Flaws.{Flaw, open_comment, open_remark, open_quoted, stray, long_piece, flaw_text, fault_kind}
use Rattle.fx_lexer.specs.Flaws.{IsFlaw}
use Rattle.fx_lexer.proofs.Ends.{first_byte, split, ClosingIs, closing_is, RemarkIs, remark_is, QuotedIs, quoted_is}
use Rattle.fx_lexer.proofs.Ends.{Fraction, fraction_is}
use Rattle.fx_lexer.proofs.ItemOfPiece.{differs}

-- the item is this piece
pub record IsPiece (start : Bool) (b : ℕ) (bytes : List ℕ) (it : Item) : Type 0 where
  pub piece : Piece
  pub rest : List ℕ
  pub joined : b ∷ bytes ≡ spelling piece ++ rest
  pub form : HasForm start piece rest
  pub short : HasAllowedLength piece
  pub kind : it.kind ≡ kind_of piece
  pub long : it.length ≡ length (spelling piece)
  pub behind : starts_after start it b ≡ starts_behind start piece

-- the fault comes of this flaw
pub record IsFlawed (start : Bool) (b : ℕ) (bytes : List ℕ) (k : ℕ) : Type 0 where
  pub flaw : Flaw
  pub joined : b ∷ bytes ≡ flaw_text flaw
  pub form : IsFlaw start flaw
  pub kind : k ≡ fault_kind flaw

abbrev pub ItemIs : Bool → ℕ → List ℕ → Result Item ℕ → Type 0
ItemIs start b bytes (Ok it) = IsPiece start b bytes it
ItemIs start b bytes (Err k) = IsFlawed start b bytes k

choose : (P : Result Item ℕ → Type 0) (b : Bool) (x y : Result Item ℕ) → (b ≡ true → P x) → (b ≡ false → P y)
    → P (if b then x else y)
choose P true x y f g = f refl
choose P false x y f g = g refl

module _ (start : Bool) (b : ℕ) (bytes : List ℕ) where
  white_is : IsTrue (is_white b) → ItemIs start b bytes (gap 1)
  white_is h =
      record {
        piece = white b;
        rest = bytes;
        joined = refl;
        form = h;
        short = tt;
        kind = refl;
        long = refl;
        behind = refl;
      }

  comment_at : (inner : List ℕ) (r : Option ℕ) → ClosingIs inner r
      → ItemIs start 47 (42 ∷ inner) (comment_if_closed (option_map (λ n. 2 + n) r))
  comment_at inner None h = record { flaw = open_comment inner; joined = refl; form = h; kind = refl }
  comment_at inner (Some n) h =
      record {
        piece = comment h.inside;
        rest = h.rest;
        joined = cc (append_assoc h.inside (42 ∷ 47 ∷ []) h.rest);
        form = h.first;
        short = tt;
        kind = refl;
        long = rw (length-append h.inside (42 ∷ 47 ∷ [])) (omega arith);
        behind = refl;
      }

  comment_found : IsTrue (begins_comment (b ∷ bytes))
      → ItemIs start b bytes (comment_if_closed (option_map (λ n. 2 + n) (closing_len (drop 1 bytes))))
  comment_found h =
      let is = and_parts (b == 47) (starts_with_byte 42 bytes) h in
      let tail = first_byte 42 bytes is.1 in
      at_front b bytes tail.0 (eqb-true b 47 is.0) tail.1
    where
      at_front : (b : ℕ) (bytes inner : List ℕ) → b ≡ 47 → bytes ≡ 42 ∷ inner
          → ItemIs start b bytes (comment_if_closed (option_map (λ n. 2 + n) (closing_len (drop 1 bytes))))
      at_front b bytes inner e f = rw (e, f) (comment_at inner (closing_len inner) (closing_is inner))

  remark_found : IsTrue (begins_remark start (b ∷ bytes))
      → ItemIs start b bytes (comment_if_closed (remark_len (b ∷ bytes)))
  remark_found h =
      let is = and_parts start (b == 42) h in
      rw (eqb-true b 42 is.1) (by (remark_len bytes) (remark_is bytes) is.0)
    where
      by : (r : Option ℕ) → RemarkIs bytes r → IsTrue start
          → ItemIs start 42 bytes (comment_if_closed (option_map suc r))
      by None h starts = record { flaw = open_remark bytes; joined = refl; form = (starts, h); kind = refl }
      by (Some n) h starts =
          record {
            piece = remark h.inside;
            rest = h.rest;
            joined = cc (append_assoc h.inside (59 ∷ []) h.rest);
            form = (starts, h.first);
            short = tt;
            kind = refl;
            long = rw (length-append h.inside (59 ∷ [])) (omega arith);
            behind = refl;
          }

  quoted_found : IsTrue (is_quote b)
      → ItemIs start b bytes (quoted_if_closed (option_map suc (quoted_len b false bytes)))
  quoted_found h = by (quoted_len b false bytes) (quoted_is b bytes)
    where
      by : (r : Option ℕ) → QuotedIs b bytes r → ItemIs start b bytes (quoted_if_closed (option_map suc r))
      by None later = record { flaw = open_quoted b bytes; joined = refl; form = (h, later); kind = refl }
      by (Some n) r =
          record {
            piece = quoted b r.value;
            rest = r.rest;
            joined = cc (append_assoc (doubled b r.value) (b ∷ []) r.rest);
            form = (h, r.ended);
            short = tt;
            kind = refl;
            long = rw (length-append (doubled b r.value) (b ∷ [])) (omega arith);
            behind = differs is_quote b 59 h refl;
          }

  -- a word or a number, within its limit or above it
  limited_is : (p : Piece) (rest : List ℕ) (k : Kind) (n limit fault : ℕ) → b ∷ bytes ≡ spelling p ++ rest
      → HasForm start p rest
      → Some k ≡ kind_of p → n ≡ length (spelling p) → (b == 59) ≡ starts_behind start p
      → fault ≡ fault_kind (long_piece p rest)
      → (n ≤ limit → HasAllowedLength p) → (limit < n → ¬ HasAllowedLength p)
      → ItemIs start b bytes (limited k n limit fault)
  limited_is p rest k n limit fault joined form is long behind cause short over =
      choose (ItemIs start b bytes) (nat_le n limit) (token k n) (Err fault)
      (λ h. record {
        piece = p;
        rest = rest;
        joined = joined;
        form = form;
        short = short (leb-true n limit h);
        kind = is;
        long = long;
        behind = behind;
      })
      (λ h. record
      { flaw = long_piece p rest; joined = joined; form = (form, over (leb-false n limit h)); kind = cause })

  front_first : (sort : ℕ → Bool) → sort b ≡ true → (front rest : List ℕ) → b ∷ bytes ≡ front ++ rest
      → begins_with sort rest ≡ false → (tail : List ℕ) × (front ≡ b ∷ tail)
  front_first sort is [] rest joined ended =
      absurd (let k : sort b ≡ begins_with sort rest = cc in cc)
  front_first sort is (x ∷ front) rest joined ended = (front, cc)

  word_found : IsTrue (begins_word b)
      → ItemIs start b bytes (limited kind.Word (prefix_len is_word_byte (b ∷ bytes)) 32 5)
  word_found h =
      let r = split is_word_byte (b ∷ bytes) in
      let first = front_first is_word_byte (rw h refl) r.front r.rest r.joined r.ended in
      let begins = ap (begins_with begins_word) first.1 ∙ h in
      limited_is (word r.front) r.rest kind.Word _ 32 5 r.joined
      (begins, r.all, r.ended) refl (sym r.long)
      (differs begins_word b 59 h refl) refl (λ few. omega arith)
      (λ many short. omega arith)

  all_first : (sort : ℕ → Bool) (front rest : List ℕ) → b ∷ bytes ≡ front ++ rest → 0 < length front
      → list_all sort front ≡ true → sort b ≡ true
  all_first sort [] rest joined some all = absurd (omega arith)
  all_first sort (x ∷ front) rest joined some all =
      let e : b ≡ x = cc in
      cc ((and_parts (sort x) (list_all sort front) all).0)

  decimal_first : (front digits rest : List ℕ) → b ∷ bytes ≡ front ++ (46 ∷ digits ++ rest)
      → list_all is_digit front ≡ true → (b == 59) ≡ false
  decimal_first [] digits rest joined all = let e : b ≡ 46 = cc in rw e refl
  decimal_first (x ∷ front) digits rest joined all =
      differs is_digit b 59 (all_first is_digit (x ∷ front) (46 ∷ digits ++ rest) joined (omega arith) all) refl

  module _ (front rest : List ℕ) (joined : b ∷ bytes ≡ front ++ rest) (all : IsTrue (list_all is_digit front))
      (ended : begins_with is_digit rest ≡ false) where
    whole_found : begins_fraction rest ≡ false → 0 < length front
        → ItemIs start b bytes (limited kind.Whole (length front) 38 4)
    whole_found pointless some =
        limited_is (whole front) rest kind.Whole (length front) 38 4 joined (some, all, ended, pointless) refl refl
        (differs is_digit b 59 (all_first is_digit front rest joined some all) refl) refl (λ few. few)
        (λ many short. omega arith)

    decimal_found : (f : Fraction rest) (n : ℕ) → n ≡ length front + fraction_len rest
        → ItemIs start b bytes (limited kind.Decimal n 38 4)
    decimal_found f n long =
        let is : b ∷ bytes ≡ front ++ (46 ∷ f.digits ++ f.rest) = cc in
        let size : n ≡ length (front ++ 46 ∷ f.digits) = omega (arith, length-append front (46 ∷ f.digits)) in
        limited_is (decimal front f.digits) f.rest kind.Decimal n 38 4
        (cc (append_assoc front (46 ∷ f.digits) f.rest))
        (all, f.some, f.all, f.ended) refl size (decimal_first front f.digits f.rest is all) refl
        (λ few. omega arith) (λ many short. omega arith)

    number_at : (n : ℕ) → n ≡ fraction_len rest → 0 < length front + n
        → ItemIs start b bytes (item_of_number (length front) n)
    number_at n long some =
        choose (ItemIs start b bytes) (n == 0) (limited kind.Whole (length front) 38 4)
        (limited kind.Decimal (length front + n) 38 4)
        (λ e.
        let none = eqb-true n 0 e in
        elim (fraction_is rest) [
          | inl f ↦ absurd (omega arith)
          | inr f ↦ whole_found f.1 (omega arith)
        ])
        (λ e.
        elim (fraction_is rest) [
          | inl f ↦ decimal_found f (length front + n) (omega arith)
          | inr f ↦ absurd (let zero_is = eq-eqb n 0 (omega arith) in cc)
        ])

  -- the digits in front, and the bytes from a point on after them
  abbrev whole_len : ℕ
  whole_len = prefix_len is_digit (b ∷ bytes)

  abbrev part_len : ℕ
  part_len = fraction_len (drop whole_len (b ∷ bytes))

  number_found : IsTrue (begins_number whole_len part_len)
      → ItemIs start b bytes (item_of_number whole_len part_len)
  number_found h =
      let r = split is_digit (b ∷ bytes) in
      let after : drop whole_len (b ∷ bytes) ≡ r.rest =
      cc (drop-append_seam r.front r.rest)
      in
      let fraction = ap fraction_len after in
      let some = ltb-true 0 _ h in
      let P : ℕ → Type 0 = λ n. ItemIs start b bytes (item_of_number n part_len) in
      subst P r.long (number_at r.front r.rest r.joined r.all r.ended _ fraction (omega arith))

  sign_found : begins_comment (b ∷ bytes) ≡ false → begins_remark start (b ∷ bytes) ≡ false → IsTrue (is_sign b)
      → ItemIs start b bytes (token kind.Sign 1)
  sign_found no_comment no_remark h =
      record {
        piece = sign b;
        rest = bytes;
        joined = refl;
        form = (h, no_comment, no_remark);
        short = tt;
        kind = refl;
        long = refl;
        behind = refl;
      }

  no_digit : begins_number whole_len part_len ≡ false → is_digit b ≡ false
  no_digit h =
      elim (cases_Bool (is_digit b)) [
        | inl is ↦
            let few = ltb-false 0 _ h in
            let long : whole_len ≡ 1 + prefix_len is_digit bytes = rw is refl in
            absurd (omega arith)
        | inr e ↦ e
      ]

  no_fraction : is_digit b ≡ false → begins_number whole_len part_len ≡ false → begins_fraction (b ∷ bytes) ≡ false
  no_fraction other h =
      let few = ltb-false 0 (0 + fraction_len (b ∷ bytes)) (rw other at h) in
      elim (fraction_is (b ∷ bytes)) [ inl f ↦ absurd (omega arith) | inr f ↦ f.1 ]

  stray_found : is_white b ≡ false → begins_word b ≡ false → begins_number whole_len part_len ≡ false
      → is_quote b ≡ false
      → is_sign b ≡ false → ItemIs start b bytes (Err 3)
  stray_found no_white no_word no_number no_quote no_sign =
      let digit = no_digit no_number in
      let letter =
      or_from _ _ (or_from _ _ no_white no_word)
      digit in
      let point =
      or_from _ _ letter
      (no_fraction digit no_number) in
      record {
        flaw = stray b bytes;
        joined = refl;
        form = or_from _ _ (or_from _ _ point no_quote) no_sign;
        kind = refl;
      }

  pub item_is : ItemIs start b bytes (first_item start (b ∷ bytes))
  item_is =
      choose (ItemIs start b bytes) (is_white b) _ _ white_is (λ no_white.
      choose (ItemIs start b bytes) (begins_comment (b ∷ bytes)) _ _ comment_found (λ no_comment.
      choose (ItemIs start b bytes) (begins_remark start (b ∷ bytes)) _ _ remark_found (λ no_remark.
      choose (ItemIs start b bytes) (begins_word b) _ _ word_found (λ no_word.
      choose (ItemIs start b bytes) (begins_number whole_len part_len) _ _ number_found (λ no_number.
      choose (ItemIs start b bytes) (is_quote b) _ _ quoted_found (λ no_quote.
      choose (ItemIs start b bytes) (is_sign b) _ _ (sign_found no_comment no_remark) (λ no_sign.
      stray_found no_white no_word no_number no_quote no_sign)))))))

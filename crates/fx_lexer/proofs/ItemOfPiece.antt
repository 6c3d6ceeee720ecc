-- Which item a piece or a flaw is.
use Rattle.std.proofs.Common.{◌≡◌, ℕ, suc, ◌+◌, ◌<◌, ◌≤◌, Bool, true, false, not, ◌||◌, List, [], ◌∷◌, ◌++◌, length}
use Rattle.std.proofs.Common.{drop, Option, Some, None, Result, Ok, Err, refl, sym, ap, ap₂, ◌∙◌, inl, inr}
use Rattle.std.proofs.Common.{append_assoc, length-append, arith}
use Rattle.std.specs.Prelude.{◌==◌, nat_le, if◌then◌else◌, Contains, codes}
use Rattle.std.specs.List.{prefix_len, list_all, list_any}
use Rattle.std.specs.Option.{option_map}
use Rattle.std.proofs.lemmas.Bool.{eqb-true, eq-eqb, leb-true, le-leb, lt-leb, lt-ltb, cases_Bool, and_parts, or_parts}
use Rattle.std.proofs.lemmas.Bool.{or_cases, not-true}
use Rattle.std.proofs.Math.Seq.{drop-append_seam}
use Rattle.std.proofs.lemmas.List.Elements.{Contains-append_right}
use Rattle.fx_lexer.specs.declared.token.Kind.{Kind}
use Rattle.fx_lexer.specs.declared.token.Kind.TheVariants as kind
use Rattle.fx_lexer.specs.declared.item.Item.{Item}
use Rattle.fx_lexer.specs.Bytes.{is_white, is_digit, begins_word, is_word_byte, is_sign, is_quote}
use Rattle.fx_lexer.specs.Extents.{begins_comment, begins_remark, starts_with_byte, closing_len, ends_comment}
use Rattle.fx_lexer.specs.Extents.{remark_len, fraction_len, quoted_len}
use Rattle.fx_lexer.specs.Items.{first_item, token, gap, comment_if_closed, quoted_if_closed, limited, item_of_number}
use Rattle.fx_lexer.specs.Items.{begins_number}
use Rattle.fx_lexer.specs.TextPieces.{Piece, white, comment, remark, word, whole, decimal, quoted, sign, begins_with}
use Rattle.fx_lexer.specs.TextPieces.{begins_fraction, doubled, spelling, kind_of, HasForm, HasAllowedLength}
use Rattle.fx_lexer.specs.TextPieces.{HasCommentEnd, EndsQuoted}
use Rattle.fx_lexer.specs.Flaws.{begins_item, Flaw, open_comment, open_remark, open_quoted, stray, long_piece}
use Rattle.fx_lexer.specs.Flaws.{flaw_text, fault_kind, IsFlaw}
use Rattle.fx_lexer.proofs.Ends.{first_byte, ends_same, ClosingIs, closing_is, RemarkIs, remark_is, QuotedIs, quoted_is}

-- a sort of bytes that c isn't of
pub differs : (sort : ℕ → Bool) (b c : ℕ) → sort b ≡ true → sort c ≡ false → (b == c) ≡ false
differs sort b c is other = elim (cases_Bool (b == c)) [ inl e ↦ (let k = ap sort (eqb-true b c e) in cc) | inr e ↦ e ]

-- bytes of another sort are no white space
no_white : (sort : ℕ → Bool) (b : ℕ) → sort b ≡ true → sort 32 ≡ false → sort 9 ≡ false → sort 10 ≡ false
    → sort 13 ≡ false → is_white b ≡ false
no_white sort b is blank tab feed back =
    rw (differs sort b 32 is blank, differs sort b 9 is tab, differs sort b 10 is feed, differs sort b 13 is back) refl

module _ (start : Bool) (b : ℕ) (bytes : List ℕ) where
  no_remark : (b == 42) ≡ false → begins_remark start (b ∷ bytes) ≡ false
  no_remark e = elim start as (λ s. begins_remark s (b ∷ bytes) ≡ false) [ true ↦ e | false ↦ refl ]

  no_comment : (b == 47) ≡ false → begins_comment (b ∷ bytes) ≡ false
  no_comment e = rw e refl

  -- the rows of the table below the first three, at so many digits and so many bytes from a point on
  not_gap : ℕ → ℕ → Result Item ℕ
  not_gap digits fraction =
      if begins_word b then limited kind.Word (prefix_len is_word_byte (b ∷ bytes)) 32 5
      else (if begins_number digits fraction then item_of_number digits fraction
      else (if is_quote b then quoted_if_closed (option_map suc (quoted_len b false bytes))
      else (if is_sign b then token kind.Sign 1
      else Err 3)))

  item_not_gap : (digits fraction : ℕ) → is_white b ≡ false → begins_comment (b ∷ bytes) ≡ false
      → begins_remark start (b ∷ bytes) ≡ false
      → prefix_len is_digit (b ∷ bytes) ≡ digits → fraction_len (drop digits (b ∷ bytes)) ≡ fraction
      → first_item start (b ∷ bytes) ≡ not_gap digits fraction
  unfolding not_gap
  item_not_gap digits fraction e f g count part =
      let part_at : ℕ → ℕ = λ n. fraction_len (drop n (b ∷ bytes)) in
      let here : not_gap (prefix_len is_digit (b ∷ bytes)) (part_at (prefix_len is_digit (b ∷ bytes)))
      ≡ not_gap digits (part_at digits) =
      cc
      in
      rw (e, f, g) (cc)

  word_row : (digits fraction : ℕ) → begins_word b ≡ true
      → not_gap digits fraction ≡ limited kind.Word (prefix_len is_word_byte (b ∷ bytes)) 32 5
  unfolding not_gap
  word_row digits fraction e = rw e refl

  number_row : (digits fraction : ℕ) → begins_word b ≡ false → 0 < digits + fraction
      → not_gap digits fraction ≡ item_of_number digits fraction
  unfolding not_gap
  number_row digits fraction e some =
      let f = lt-ltb 0 _ some in
      rw (e, f) refl

  quoted_row : begins_word b ≡ false → is_quote b ≡ true
      → not_gap 0 0 ≡ quoted_if_closed (option_map suc (quoted_len b false bytes))
  unfolding not_gap
  quoted_row e f = rw (e, f) refl

  sign_row : begins_word b ≡ false → is_quote b ≡ false → is_sign b ≡ true → not_gap 0 0 ≡ token kind.Sign 1
  unfolding not_gap
  sign_row e f g = rw (e, f, g) refl

  stray_row : begins_word b ≡ false → is_quote b ≡ false → is_sign b ≡ false → not_gap 0 0 ≡ Err 3
  unfolding not_gap
  stray_row e f g = rw (e, f, g) refl

  no_digits : is_digit b ≡ false → prefix_len is_digit (b ∷ bytes) ≡ 0
  no_digits e = rw e refl

-- so many bytes pass
prefix_all : (sort : ℕ → Bool) (front rest : List ℕ) → list_all sort front ≡ true → begins_with sort rest ≡ false
    → prefix_len sort (front ++ rest) ≡ length front
prefix_all sort [] [] all ended = refl
prefix_all sort [] (b ∷ rest) all ended = rw ended refl
prefix_all sort (x ∷ front) rest all ended =
    let is = and_parts (sort x) (list_all sort front) all in
    rw is.0 (omega (arith, prefix_all sort front rest is.1 ended))

no_fraction : (bytes : List ℕ) → begins_fraction bytes ≡ false → fraction_len bytes ≡ 0
no_fraction [] e = refl
no_fraction (b ∷ bytes) e =
    elim (cases_Bool (b == 46)) [
      | inl point ↦
          (let f = rw point at e in let none = prefix_all is_digit [] bytes refl f in
          rw (point, none) refl)
      | inr other ↦ rw other refl
    ]

a_fraction : (digits rest : List ℕ) → 0 < length digits → list_all is_digit digits ≡ true
    → begins_with is_digit rest ≡ false → fraction_len (46 ∷ (digits ++ rest)) ≡ 1 + length digits
a_fraction digits rest some all ended =
    rw (prefix_all is_digit digits rest all ended, lt-ltb 0 _ some) refl

digit_no_word : (b : ℕ) → is_digit b ≡ true → begins_word b ≡ false
digit_no_word b is =
    let most = leb-true b 57 (and_parts (nat_le 48 b) (nat_le b 57) is).1 in
    rw (lt-leb 65 b (omega arith), lt-leb 97 b (omega arith), differs is_digit b 95 is refl) refl

-- a digit or a point
pub number_byte : ℕ → Bool
number_byte b = is_digit b || (b == 46)

number_no_word : (b : ℕ) → number_byte b ≡ true → begins_word b ≡ false
unfolding number_byte
number_no_word b is =
    elim (or_cases (is_digit b) (b == 46) is) [ inl d ↦ digit_no_word b d | inr p ↦ rw (eqb-true b 46 p) refl ]

module _ (start : Bool) (b : ℕ) (bytes : List ℕ) where
  number_item : (digits rest : List ℕ) (fraction : ℕ) → number_byte b ≡ true → b ∷ bytes ≡ digits ++ rest
      → list_all is_digit digits ≡ true → begins_with is_digit rest ≡ false
      → fraction_len rest ≡ fraction → 0 < length digits + fraction
      → first_item start (b ∷ bytes) ≡ item_of_number (length digits) fraction
  unfolding number_byte
  number_item digits rest fraction is joined all ended part some =
      let count = ap (prefix_len is_digit) joined ∙ prefix_all is_digit digits rest all ended in
      let behind = ap (λ l. drop (length digits) l) joined ∙ drop-append_seam digits rest in
      let white_not = no_white number_byte b is refl refl refl refl in
      let comment_not = no_comment start b bytes (differs number_byte b 47 is refl) in
      let remark_not = no_remark start b bytes (differs number_byte b 42 is refl) in
      item_not_gap start b bytes (length digits) fraction white_not comment_not remark_not count
      (ap fraction_len behind ∙ part)
      ∙ number_row start b bytes (length digits) fraction (number_no_word b is) some

  word_item : (name rest : List ℕ) → b ∷ bytes ≡ name ++ rest → begins_with begins_word name ≡ true
      → list_all is_word_byte name ≡ true → begins_with is_word_byte rest ≡ false
      → first_item start (b ∷ bytes) ≡ limited kind.Word (length name) 32 5
  word_item [] rest joined begins all ended = absurd (cc begins)
  word_item (x ∷ name) rest joined begins all ended =
      let same : b ≡ x = cc joined in
      let is = ap begins_word same ∙ begins in
      let count = ap (prefix_len is_word_byte) joined ∙ prefix_all is_word_byte (x ∷ name) rest all ended in
      let white_not = no_white begins_word b is refl refl refl refl in
      let comment_not = no_comment start b bytes (differs begins_word b 47 is refl) in
      let remark_not = no_remark start b bytes (differs begins_word b 42 is refl) in
      item_not_gap start b bytes _ _ white_not comment_not remark_not refl refl
      ∙ word_row start b bytes _ _ is
      ∙ ap (λ n. limited kind.Word n 32 5) count

-- the lengths of the items that are closed
length_closing : (inside rest : List ℕ) → ¬ HasCommentEnd (inside ++ 42 ∷ [])
    → closing_len (inside ++ 42 ∷ 47 ∷ rest) ≡ Some (length inside + 2)
length_closing [] rest first = refl
length_closing (x ∷ inside) rest first =
    elim (cases_Bool (ends_comment (x ∷ (inside ++ 42 ∷ 47 ∷ rest)))) [
      | inl ends ↦
          let ends' = sym (ends_same x inside (47 ∷ rest)) ∙ ends in
          let is = and_parts (x == 42) (starts_with_byte 47 (inside ++ 42 ∷ [])) ends' in
          let tail = first_byte 47 (inside ++ 42 ∷ []) is.1 in
          absurd (first ([], tail.0, ap₂ (λ a l. a ∷ l) (eqb-true x 42 is.0) tail.1))
      | inr goes_on ↦
          let inner : ¬ HasCommentEnd (inside ++ 42 ∷ []) = λ h. first (x ∷ h.0, h.1, ap (λ l. x ∷ l) h.2) in
          let more : suc (length inside + 2) ≡ suc (length inside) + 2 = omega arith in
          rw (goes_on, length_closing inside rest inner) (cc)
    ]

length_remark : (inside rest : List ℕ) → ¬ Contains inside 59
    → remark_len (inside ++ 59 ∷ rest) ≡ Some (length inside + 1)
length_remark [] rest first = refl
length_remark (x ∷ inside) rest first =
    elim (cases_Bool (x == 59)) [
      | inl is ↦ absurd (first (0, omega arith, eqb-true x 59 is))
      | inr other ↦
          let inner : ¬ Contains inside 59 = λ h. first (suc h.0, omega arith, h.2) in
          let more : suc (length inside + 1) ≡ suc (length inside) + 1 = omega arith in
          rw (other, length_remark inside rest inner) (cc)
    ]

length_quoted : (q : ℕ) (value rest : List ℕ) → starts_with_byte q rest ≡ false
    → quoted_len q false (doubled q value ++ q ∷ rest) ≡ Some (length (doubled q value) + 1)
length_quoted q [] rest ended = rw (eq-eqb q q refl, ended) refl
length_quoted q (x ∷ value) rest ended =
    elim (cases_Bool (x == q)) [
      | inl is ↦
          let more : suc (suc (length (doubled q value) + 1)) ≡ suc (suc (length (doubled q value))) + 1 =
          omega arith in
          rw (is, eq-eqb q q refl, length_quoted q value rest ended) (cc)
      | inr other ↦
          let more : suc (length (doubled q value) + 1) ≡ suc (length (doubled q value)) + 1 = omega arith in
          rw (other, other, length_quoted q value rest ended) (cc)
    ]

-- a comment, a remark or a quoted text with no end
no_closing : (bytes : List ℕ) → ¬ HasCommentEnd bytes → closing_len bytes ≡ None
no_closing bytes none = by (closing_len bytes) (closing_is bytes)
  where
    by : (r : Option ℕ) → ClosingIs bytes r → r ≡ None
    by None h = refl
    by (Some n) h = absurd (none (h.inside, h.rest, h.joined))

no_remark_end : (bytes : List ℕ) → ¬ Contains bytes 59 → remark_len bytes ≡ None
no_remark_end bytes none = by (remark_len bytes) (remark_is bytes)
  where
    by : (r : Option ℕ) → RemarkIs bytes r → r ≡ None
    by None h = refl
    by (Some n) h = absurd (none (rw h.joined (Contains-append_right h.inside (59 ∷ h.rest) 59 (0, omega arith, refl))))

no_quoted_end : (q : ℕ) (bytes : List ℕ) → ¬ EndsQuoted q bytes → quoted_len q false bytes ≡ None
no_quoted_end q bytes none = by (quoted_len q false bytes) (quoted_is q bytes)
  where
    by : (r : Option ℕ) → QuotedIs q bytes r → r ≡ None
    by None h = refl
    by (Some n) h = absurd (none (h.value, h.rest, h.joined, h.ended))

-- what holds of no byte of a list doesn't hold of one that is in it
none_of : (list : List ℕ) (b : ℕ) (p : ℕ → Bool) → list_any (λ c. c == b) list ≡ true
    → list_all (λ c. not (p c)) list ≡ true → p b ≡ false
none_of [] b p found none = absurd (cc found)
none_of (c ∷ list) b p found none =
    let is = and_parts (not (p c)) (list_all (λ c. not (p c)) list) none in
    elim (or_cases (c == b) (list_any (λ c. c == b) list) found) [
      | inl here ↦ (let e = ap p (eqb-true c b here) in let f = not-true _ is.0 in cc)
      | inr later ↦ none_of list b p later is.1
    ]

module _ (start : Bool) (b : ℕ) (bytes : List ℕ) where
  -- where the byte is no digit and no fraction begins
  without_digits : is_white b ≡ false → begins_comment (b ∷ bytes) ≡ false → begins_remark start (b ∷ bytes) ≡ false
      → is_digit b ≡ false → begins_fraction (b ∷ bytes) ≡ false
      → first_item start (b ∷ bytes) ≡ not_gap start b bytes 0 0
  without_digits e f g d p =
      item_not_gap start b bytes 0 0 e f g (no_digits start b bytes d) (no_fraction (b ∷ bytes) p)

  pointless : (b == 46) ≡ false → begins_fraction (b ∷ bytes) ≡ false
  pointless e = rw e refl

  quote_no_word : is_quote b ≡ true → begins_word b ≡ false
  quote_no_word is =
      elim (or_cases (b == 39) (b == 34) is) [ inl e ↦ rw (eqb-true b 39 e) refl | inr e ↦ rw (eqb-true b 34 e) refl ]

  quote_no_digit : is_quote b ≡ true → is_digit b ≡ false
  quote_no_digit is =
      elim (or_cases (b == 39) (b == 34) is) [ inl e ↦ rw (eqb-true b 39 e) refl | inr e ↦ rw (eqb-true b 34 e) refl ]

  quoted_item : is_quote b ≡ true
      → first_item start (b ∷ bytes) ≡ quoted_if_closed (option_map suc (quoted_len b false bytes))
  quoted_item is =
      let white_not = no_white is_quote b is refl refl refl refl in
      let comment_not = no_comment start b bytes (differs is_quote b 47 is refl) in
      let remark_not = no_remark start b bytes (differs is_quote b 42 is refl) in
      without_digits white_not comment_not remark_not (quote_no_digit is) (pointless (differs is_quote b 46 is refl))
      ∙ quoted_row start b bytes (quote_no_word is) is

  no_sign_is : (p : ℕ → Bool) → is_sign b ≡ true → list_all (λ c. not (p c)) (codes ";=()[]/*|@-") ≡ true
      → p b ≡ false
  no_sign_is p is none = none_of (codes ";=()[]/*|@-") b p is none

  sign_item : is_sign b ≡ true → begins_comment (b ∷ bytes) ≡ false → begins_remark start (b ∷ bytes) ≡ false
      → first_item start (b ∷ bytes) ≡ token kind.Sign 1
  sign_item is comment_not remark_not =
      without_digits (no_sign_is is_white is refl) comment_not remark_not (no_sign_is is_digit is refl)
      (pointless (no_sign_is (λ c. c == 46) is refl))
      ∙ sign_row start b bytes (no_sign_is begins_word is refl) (no_sign_is is_quote is refl) is

  -- a byte of a sort isn't one that isn't of it
  sort_other : (sort : ℕ → Bool) (c : ℕ) → sort b ≡ false → sort c ≡ true → (b == c) ≡ false
  sort_other sort c other is =
      elim (cases_Bool (b == c)) [ inl e ↦ (let k = ap sort (eqb-true b c e) in cc) | inr e ↦ e ]

  stray_item : begins_item b bytes ≡ false → first_item start (b ∷ bytes) ≡ Err 3
  stray_item none =
      let sign_not =
      or_parts (is_white b || begins_word b || is_digit b || begins_fraction (b ∷ bytes) || is_quote b)
      (is_sign b) none in
      let quote_not =
      or_parts (is_white b || begins_word b || is_digit b || begins_fraction (b ∷ bytes)) (is_quote b) sign_not.0
      in
      let fraction_not =
      or_parts (is_white b || begins_word b || is_digit b) (begins_fraction (b ∷ bytes)) quote_not.0 in
      let digit_not = or_parts (is_white b || begins_word b) (is_digit b) fraction_not.0 in
      let word_not = or_parts (is_white b) (begins_word b) digit_not.0 in
      let comment_not = no_comment start b bytes (sort_other is_sign 47 sign_not.1 refl) in
      let remark_not = no_remark start b bytes (sort_other is_sign 42 sign_not.1 refl) in
      without_digits word_not.0 comment_not remark_not digit_not.1 fraction_not.1
      ∙ stray_row start b bytes word_not.1 quote_not.1 sign_not.1

  white_item : is_white b ≡ true → first_item start (b ∷ bytes) ≡ gap 1
  white_item is = rw is refl

pub comment_item : (start : Bool) (inner : List ℕ)
    → first_item start (47 ∷ 42 ∷ inner) ≡ comment_if_closed (option_map (λ n. 2 + n) (closing_len inner))
comment_item start inner = refl

pub remark_item : (bytes : List ℕ)
    → first_item true (42 ∷ bytes) ≡ comment_if_closed (option_map suc (remark_len bytes))
remark_item bytes = refl

-- a word or a number is short enough or too long
short_is : (k : Kind) (n limit fault : ℕ) → n ≤ limit → limited k n limit fault ≡ token k n
short_is k n limit fault h = rw (le-leb n limit h) refl

long_is : (k : Kind) (n limit fault : ℕ) → ¬ (n ≤ limit) → limited k n limit fault ≡ Err fault
long_is k n limit fault h = rw (lt-leb n limit (omega arith)) refl

not_zero : (n : ℕ) → 0 < n → (n == 0) ≡ false
not_zero n some = elim (cases_Bool (n == 0)) [ inl e ↦ absurd (let z = eqb-true n 0 e in omega arith) | inr e ↦ e ]

module _ (start : Bool) (b : ℕ) (bytes : List ℕ) where
  pub digit_first : (digits rest : List ℕ) → 0 < length digits → b ∷ bytes ≡ digits ++ rest
      → list_all is_digit digits ≡ true → number_byte b ≡ true
  unfolding number_byte
  digit_first [] rest some joined all = absurd (omega arith)
  digit_first (x ∷ digits) rest some joined all =
      let same : b ≡ x = cc joined in
      let is = ap is_digit same ∙ (and_parts (is_digit x) (list_all is_digit digits) all).0 in
      rw is refl

  pub point_or_digit : (digits fraction : List ℕ) → b ∷ bytes ≡ digits ++ 46 ∷ fraction
      → list_all is_digit digits ≡ true → number_byte b ≡ true
  unfolding number_byte
  point_or_digit [] fraction joined all = let same : b ≡ 46 = cc joined in rw same refl
  point_or_digit (x ∷ digits) fraction joined all = digit_first (x ∷ digits) (46 ∷ fraction) (omega arith) joined all

  whole_item : (digits rest : List ℕ) → 0 < length digits → b ∷ bytes ≡ digits ++ rest
      → list_all is_digit digits ≡ true → begins_with is_digit rest ≡ false → begins_fraction rest ≡ false
      → first_item start (b ∷ bytes) ≡ limited kind.Whole (length digits) 38 4
  whole_item digits rest some joined all ended pointless =
      number_item start b bytes digits rest 0 (digit_first digits rest some joined all) joined all ended
      (no_fraction rest pointless) (omega arith)

  decimal_item : (digits fraction rest : List ℕ) → b ∷ bytes ≡ (digits ++ 46 ∷ fraction) ++ rest
      → list_all is_digit digits ≡ true → 0 < length fraction → list_all is_digit fraction ≡ true
      → begins_with is_digit rest ≡ false
      → first_item start (b ∷ bytes) ≡ limited kind.Decimal (length (digits ++ 46 ∷ fraction)) 38 4
  decimal_item digits fraction rest joined all some fraction_all ended =
      let joined' =
      joined ∙ append_assoc digits (46 ∷ fraction) rest in
      let is = point_or_digit digits (fraction ++ rest) joined' all in
      let part = a_fraction fraction rest some fraction_all ended in
      let size : length digits + (1 + length fraction) ≡ length (digits ++ 46 ∷ fraction) =
      omega (arith, length-append digits (46 ∷ fraction)) in
      number_item start b bytes digits (46 ∷ (fraction ++ rest)) (1 + length fraction) is joined' all refl part
      (omega arith)
      ∙ rw (not_zero (1 + length fraction) (omega arith)) (cc)

-- the item of a piece at the front of a text
abbrev pub item_of : Piece → Result Item ℕ
item_of p = Ok (record { kind = kind_of p; length = length (spelling p) })

at_front : (start : Bool) (b : ℕ) (bytes text : List ℕ) (r : Result Item ℕ) → b ∷ bytes ≡ text
    → first_item start text ≡ r
    → first_item start (b ∷ bytes) ≡ r
at_front start b bytes text r joined e = cc

pub piece_item : (start : Bool) (p : Piece) (rest : List ℕ) (b : ℕ) (bytes : List ℕ) → b ∷ bytes ≡ spelling p ++ rest
    → HasForm start p rest → HasAllowedLength p → first_item start (b ∷ bytes) ≡ item_of p
piece_item start (white w) rest b bytes joined form short =
    at_front start b bytes _ _ joined (white_item start w rest form)
piece_item start (comment inside) rest b bytes joined form short =
    let inner = append_assoc inside (42 ∷ 47 ∷ []) rest in
    let found = ap closing_len inner ∙ length_closing inside rest form in
    let size : 2 + (length inside + 2) ≡ suc (suc (length (inside ++ 42 ∷ 47 ∷ []))) =
    omega (arith, length-append inside (42 ∷ 47 ∷ [])) in
    at_front start b bytes _ _ joined
    (comment_item start ((inside ++ 42 ∷ 47 ∷ []) ++ rest) ∙ ap (λ r. comment_if_closed (option_map (λ n. 2 + n) r))
    found ∙ ap gap size)
piece_item start (remark inside) rest b bytes joined form short =
    let inner = append_assoc inside (59 ∷ []) rest in
    let found = ap remark_len inner ∙ length_remark inside rest form.1 in
    let size : suc (length inside + 1) ≡ suc (length (inside ++ 59 ∷ [])) =
    omega (arith, length-append inside (59 ∷ [])) in
    at_front start b bytes _ _ joined
    (ap (λ s. first_item s (42 ∷ ((inside ++ 59 ∷ []) ++ rest))) form.0 ∙ remark_item ((inside ++ 59 ∷ []) ++ rest) ∙ ap
    (λ r. comment_if_closed (option_map suc r)) found ∙ ap gap size)
piece_item start (word name) rest b bytes joined form short =
    word_item start b bytes name rest joined form.0 form.1 form.2
    ∙ short_is kind.Word _ 32 5 short
piece_item start (whole digits) rest b bytes joined form short =
    whole_item start b bytes digits rest form.0 joined form.1 form.2 form.3
    ∙ short_is kind.Whole _ 38 4 short
piece_item start (decimal digits fraction) rest b bytes joined form short =
    decimal_item start b bytes digits fraction rest joined form.0 form.1 form.2 form.3
    ∙ short_is kind.Decimal _ 38 4 short
piece_item start (quoted q value) rest b bytes joined form short =
    let inner =
    append_assoc (doubled q value) (q ∷ []) rest in
    let found = ap (quoted_len q false) inner ∙ length_quoted q value rest form.1 in
    let size : suc (length (doubled q value) + 1) ≡ suc (length (doubled q value ++ q ∷ [])) =
    omega (arith, length-append (doubled q value) (q ∷ [])) in
    at_front start b bytes _ _ joined
    (quoted_item start q ((doubled q value ++ q ∷ []) ++ rest) form.0 ∙ ap (λ r. quoted_if_closed (option_map suc r))
    found ∙ ap (token kind.Quoted) size)
piece_item start (sign s) rest b bytes joined form short =
    at_front start b bytes _ _ joined (sign_item start s rest form.0 form.1 form.2)

-- the fault of a flaw at the front of a text
pub flaw_item : (start : Bool) (flaw : Flaw) (b : ℕ) (bytes : List ℕ) → b ∷ bytes ≡ flaw_text flaw → IsFlaw start flaw
    → first_item start (b ∷ bytes) ≡ Err (fault_kind flaw)
flaw_item start (open_comment inside) b bytes joined form =
    at_front start b bytes _ _ joined
    (comment_item start inside ∙ ap (λ r. comment_if_closed (option_map (λ n. 2 + n) r)) (no_closing inside form))
flaw_item start (open_remark inside) b bytes joined form =
    at_front start b bytes _ _ joined
    (ap (λ s. first_item s (42 ∷ inside)) form.0 ∙ remark_item inside ∙ ap (λ r. comment_if_closed (option_map suc r))
    (no_remark_end inside form.1))
flaw_item start (open_quoted q inside) b bytes joined form =
    at_front start b bytes _ _ joined
    (quoted_item start q inside form.0 ∙ ap (λ r. quoted_if_closed (option_map suc r))
    (no_quoted_end q inside form.1))
flaw_item start (stray s rest) b bytes joined form = at_front start b bytes _ _ joined (stray_item start s rest form)
flaw_item start (long_piece p rest) b bytes joined form = too_long p joined form.0 form.1
  where
    too_long : (p : Piece) → b ∷ bytes ≡ spelling p ++ rest → HasForm start p rest → ¬ HasAllowedLength p
        → first_item start (b ∷ bytes) ≡ Err (fault_kind (long_piece p rest))
    too_long (white w) joined form long = absurd (long tt)
    too_long (comment inside) joined form long = absurd (long tt)
    too_long (remark inside) joined form long = absurd (long tt)
    too_long (word name) joined form long = word_item start b bytes name rest joined form.0 form.1 form.2
        ∙ long_is kind.Word (length name) 32 5 long
    too_long (whole digits) joined form long = whole_item start b bytes digits rest form.0 joined form.1 form.2 form.3
        ∙ long_is kind.Whole (length digits) 38 4 long
    too_long (decimal digits fraction) joined form long =
        decimal_item start b bytes digits fraction rest joined form.0 form.1 form.2 form.3
        ∙ long_is kind.Decimal (length (digits ++ 46 ∷ fraction)) 38 4 long
    too_long (quoted q value) joined form long = absurd (long tt)
    too_long (sign s) joined form long = absurd (long tt)

pub no_semicolon_number : (b : ℕ) → number_byte b ≡ true → (b == 59) ≡ false
unfolding number_byte
no_semicolon_number b is = differs number_byte b 59 is refl

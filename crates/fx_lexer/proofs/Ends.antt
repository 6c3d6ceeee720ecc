-- What the lengths of items mean.
use Rattle.std.proofs.Common.{◌≡◌, ℕ, zero, suc, ◌+◌, ◌<◌, Bool, true, false, List, [], ◌∷◌, ◌++◌, length, Option, Some}
use Rattle.std.proofs.Common.{None, refl, ap, inl, inr, ◌⊎◌, arith}
use Rattle.std.specs.Prelude.{◌==◌, nat_lt, IsTrue, Contains, slice_index_or}
use Rattle.std.specs.List.{prefix_len, list_all}
use Rattle.std.specs.Option.{option_map}
use Rattle.std.proofs.lemmas.Bool.{eqb-true, eq-eqb, ltb-true, ltb-false, cases_Bool, and_parts}
use Rattle.fx_lexer.specs.Bytes.{is_digit}
use Rattle.fx_lexer.specs.Extents.{starts_with_byte, closing_len, ends_comment, remark_len, fraction_len, quoted_len}
use Rattle.fx_lexer.specs.TextPieces.{begins_with, begins_fraction, HasCommentEnd, EndsQuoted, doubled}

-- the first byte, where it is known
pub first_byte : (c : ℕ) (bytes : List ℕ) → starts_with_byte c bytes ≡ true → (rest : List ℕ) × (bytes ≡ c ∷ rest)
first_byte c [] e = absurd (cc e)
first_byte c (b ∷ bytes) e = (bytes, cc (eqb-true b c e))

-- a front of the bytes that all pass, and a rest that doesn't begin so
pub record Split (sort : ℕ → Bool) (bytes : List ℕ) : Type 0 where
  pub front : List ℕ
  pub rest : List ℕ
  pub joined : bytes ≡ front ++ rest
  pub long : length front ≡ prefix_len sort bytes
  pub all : IsTrue (list_all sort front)
  pub ended : begins_with sort rest ≡ false

pub split : (sort : ℕ → Bool) (bytes : List ℕ) → Split sort bytes
split sort [] = record { front = []; rest = []; joined = refl; long = refl; all = refl; ended = refl }
split sort (b ∷ bytes) =
    elim (cases_Bool (sort b)) [
      | inl passes ↦
          let r = split sort bytes in
          record {
            front = b ∷ r.front;
            rest = r.rest;
            joined = cc;
            long = rw passes (omega arith);
            all = rw passes r.all;
            ended = r.ended;
          }
      | inr fails ↦
          record { front = []; rest = b ∷ bytes; joined = refl; long = rw fails refl; all = refl; ended = fails }
    ]

-- up to the first `*/`
pub record Closed (bytes : List ℕ) (n : ℕ) : Type 0 where
  pub inside : List ℕ
  pub rest : List ℕ
  pub joined : bytes ≡ inside ++ 42 ∷ 47 ∷ rest
  pub long : length inside + 2 ≡ n
  pub first : ¬ HasCommentEnd (inside ++ 42 ∷ [])

abbrev pub ClosingIs : List ℕ → Option ℕ → Type 0
ClosingIs bytes None = ¬ HasCommentEnd bytes
ClosingIs bytes (Some n) = Closed bytes n

closes_cons : (b : ℕ) (bytes : List ℕ) → ends_comment (b ∷ bytes) ≡ false → ¬ HasCommentEnd bytes
    → ¬ HasCommentEnd (b ∷ bytes)
closes_cons b bytes e later h = at_front h.0 h.1 h.2
  where
    at_front : (before behind : List ℕ) → b ∷ bytes ≡ before ++ 42 ∷ 47 ∷ behind → ⊥
    at_front [] behind j = cc (ap ends_comment j)
    at_front (x ∷ before) behind j = later (before, behind, cc j)

closes_nil : ¬ HasCommentEnd []
closes_nil h = nothing h.0 h.1 h.2
  where
    nothing : (before behind : List ℕ) → [] ≡ before ++ 42 ∷ 47 ∷ behind → ⊥
    nothing [] behind j = cc j
    nothing (x ∷ before) behind j = cc j

pub ends_same : (b : ℕ) (inside rest : List ℕ)
    → ends_comment (b ∷ (inside ++ 42 ∷ rest)) ≡ ends_comment (b ∷ (inside ++ 42 ∷ []))
ends_same b [] rest = refl
ends_same b (x ∷ inside) rest = refl

closing_further : (b : ℕ) (bytes : List ℕ) (r : Option ℕ) → ends_comment (b ∷ bytes) ≡ false → ClosingIs bytes r
    → ClosingIs (b ∷ bytes) (option_map suc r)
closing_further b bytes None e h = closes_cons b bytes e h
closing_further b bytes (Some n) e h =
    record {
      inside = b ∷ h.inside;
      rest = h.rest;
      joined = cc;
      long = omega arith;
      first = closes_cons b (h.inside ++ 42 ∷ [])
          (cc (ends_same b h.inside (47 ∷ h.rest))) h.first;
    }

pub closing_is : (bytes : List ℕ) → ClosingIs bytes (closing_len bytes)
closing_is [] = closes_nil
closing_is (b ∷ bytes) =
    elim (cases_Bool (ends_comment (b ∷ bytes))) [
      | inl passes ↦
          let is = and_parts (b == 42) (starts_with_byte 47 bytes) passes in
          let tail = first_byte 47 bytes is.1 in
          rw passes (record {
            inside = [];
            rest = tail.0;
            joined = rw (← tail.1) (cc (eqb-true b 42 is.0));
            long = refl;
            first = λ h. short h.0 h.1 h.2;
          })
      | inr fails ↦ rw fails (closing_further b bytes (closing_len bytes) fails (closing_is bytes))
    ]
  where
    short : (before behind : List ℕ) → 42 ∷ [] ≡ before ++ 42 ∷ 47 ∷ behind → ⊥
    short [] behind j = cc j
    short (x ∷ before) behind j = closes_nil (before, behind, cc j)

-- up to the first `;`
pub record Remarked (bytes : List ℕ) (n : ℕ) : Type 0 where
  pub inside : List ℕ
  pub rest : List ℕ
  pub joined : bytes ≡ inside ++ 59 ∷ rest
  pub long : length inside + 1 ≡ n
  pub first : ¬ Contains inside 59

abbrev pub RemarkIs : List ℕ → Option ℕ → Type 0
RemarkIs bytes None = ¬ Contains bytes 59
RemarkIs bytes (Some n) = Remarked bytes n

contains_cons : (c b : ℕ) (bytes : List ℕ) → (b == c) ≡ false → ¬ Contains bytes c → ¬ Contains (b ∷ bytes) c
contains_cons c b bytes e later h = at_index h.0 h.1 h.2
  where
    at_index : (k : ℕ) → k < length (b ∷ bytes) → slice_index_or (b ∷ bytes) k c ≡ c → ⊥
    at_index zero within is = cc (e, eq-eqb b c is)
    at_index (suc k) within is = later (k, omega arith, is)

remark_further : (b : ℕ) (bytes : List ℕ) (r : Option ℕ) → (b == 59) ≡ false → RemarkIs bytes r
    → RemarkIs (b ∷ bytes) (option_map suc r)
remark_further b bytes None e h = contains_cons 59 b bytes e h
remark_further b bytes (Some n) e h =
    record {
      inside = b ∷ h.inside;
      rest = h.rest;
      joined = cc;
      long = omega arith;
      first = contains_cons 59 b h.inside e h.first;
    }

contains_nil : (c : ℕ) → ¬ Contains [] c
contains_nil c h = omega arith

pub remark_is : (bytes : List ℕ) → RemarkIs bytes (remark_len bytes)
remark_is [] = contains_nil 59
remark_is (b ∷ bytes) =
    elim (cases_Bool (b == 59)) [
      | inl is ↦
          rw is (record {
            inside = [];
            rest = bytes;
            joined = cc (eqb-true b 59 is);
            long = refl;
            first = contains_nil 59;
          })
      | inr other ↦ rw other (remark_further b bytes (remark_len bytes) other (remark_is bytes))
    ]

-- up to the quote that ends the text
pub record QuotedAs (q : ℕ) (bytes : List ℕ) (n : ℕ) : Type 0 where
  pub value : List ℕ
  pub rest : List ℕ
  pub joined : bytes ≡ doubled q value ++ q ∷ rest
  pub long : length (doubled q value) + 1 ≡ n
  pub ended : starts_with_byte q rest ≡ false

abbrev pub QuotedIs : ℕ → List ℕ → Option ℕ → Type 0
QuotedIs q bytes None = ¬ EndsQuoted q bytes
QuotedIs q bytes (Some n) = QuotedAs q bytes n

itself : (q : ℕ) → (q == q) ≡ true
itself q = eq-eqb q q refl

pair_further : (q : ℕ) (bytes : List ℕ) (r : Option ℕ) → QuotedIs q bytes r
    → QuotedIs q (q ∷ q ∷ bytes) (option_map suc (option_map suc r))
pair_further q bytes None later = λ h. at_front h.0 h.1 h.2 h.3
  where
    at_front : (value rest : List ℕ) → q ∷ q ∷ bytes ≡ doubled q value ++ q ∷ rest → starts_with_byte q rest ≡ false
        → ⊥
    at_front [] rest j e =
        let k : rest ≡ q ∷ bytes = cc j in
        let f : starts_with_byte q rest ≡ (q == q) = cc in
        cc (itself q, f, e)
    at_front (x ∷ value) rest j e =
        elim (cases_Bool (x == q)) [
          | inl is ↦ later (value, rest, cc (rw is at j), e)
          | inr other ↦ let k = rw other at j in cc (other, eq-eqb x q (cc k))
        ]
pair_further q bytes (Some n) h =
    record {
      value = q ∷ h.value;
      rest = h.rest;
      joined = rw (itself q) (cc);
      long = rw (itself q) (omega arith);
      ended = h.ended;
    }

single_further : (q b : ℕ) (bytes : List ℕ) (r : Option ℕ) → (b == q) ≡ false → QuotedIs q bytes r
    → QuotedIs q (b ∷ bytes) (option_map suc r)
single_further q b bytes None differs later = λ h. at_front h.0 h.1 h.2 h.3
  where
    at_front : (value rest : List ℕ) → b ∷ bytes ≡ doubled q value ++ q ∷ rest → starts_with_byte q rest ≡ false → ⊥
    at_front [] rest j e = cc (differs, eq-eqb b q (cc j))
    at_front (x ∷ value) rest j e =
        elim (cases_Bool (x == q)) [
          | inl is ↦ let k = rw is at j in cc (differs, eq-eqb b q (cc k))
          | inr other ↦ later (value, rest, cc (rw other at j), e)
        ]
single_further q b bytes (Some n) differs h =
    record {
      value = b ∷ h.value;
      rest = h.rest;
      joined = rw differs (cc);
      long = rw differs (omega arith);
      ended = h.ended;
    }

abbrev QuotedFrom : ℕ → Bool → List ℕ → Type 0
QuotedFrom q false bytes = QuotedIs q bytes (quoted_len q false bytes)
QuotedFrom q true bytes =
    starts_with_byte q bytes ≡ true → QuotedIs q (q ∷ bytes) (option_map suc (quoted_len q true bytes))

quoted_from : (q : ℕ) (in_pair : Bool) (bytes : List ℕ) → QuotedFrom q in_pair bytes
quoted_from q false [] = λ h. nothing h.0 h.1 h.2
  where
    nothing : (value rest : List ℕ) → [] ≡ doubled q value ++ q ∷ rest → ⊥
    nothing [] rest j = cc j
    nothing (x ∷ value) rest j =
        elim (cases_Bool (x == q)) [ inl is ↦ cc (rw is at j) | inr other ↦ cc (rw other at j) ]
quoted_from q true [] = λ e. absurd (cc e)
quoted_from q true (b ∷ bytes) =
    λ e. rw (eqb-true b q e) (pair_further q bytes (quoted_len q false bytes) (quoted_from q false bytes))
quoted_from q false (b ∷ bytes) =
    elim (cases_Bool (b == q)) [
      | inl is ↦
          elim (cases_Bool (starts_with_byte q bytes)) [
            | inl again ↦ rw (is, again, eqb-true b q is) (quoted_from q true bytes again)
            | inr alone ↦
                rw (is, alone) (record {
                  value = [];
                  rest = bytes;
                  joined = cc (eqb-true b q is);
                  long = refl;
                  ended = alone;
                })
          ]
      | inr other ↦ rw other (single_further q b bytes (quoted_len q false bytes) other (quoted_from q false bytes))
    ]

pub quoted_is : (q : ℕ) (bytes : List ℕ) → QuotedIs q bytes (quoted_len q false bytes)
quoted_is q bytes = quoted_from q false bytes

-- a point and digits, or none
pub record Fraction (bytes : List ℕ) : Type 0 where
  pub digits : List ℕ
  pub rest : List ℕ
  pub joined : bytes ≡ 46 ∷ (digits ++ rest)
  pub long : fraction_len bytes ≡ suc (length digits)
  pub some : 0 < length digits
  pub all : IsTrue (list_all is_digit digits)
  pub ended : begins_with is_digit rest ≡ false

none_passes : (sort : ℕ → Bool) (bytes : List ℕ) → nat_lt 0 (prefix_len sort bytes) ≡ false
    → begins_with sort bytes ≡ false
none_passes sort [] e = refl
none_passes sort (b ∷ bytes) e =
    elim (cases_Bool (sort b)) [
      | inl passes ↦ absurd (let k = rw passes at e in let l = ltb-false 0 _ k in omega arith)
      | inr fails ↦ fails
    ]

pub fraction_is : (bytes : List ℕ) → Fraction bytes ⊎ ((fraction_len bytes ≡ 0) × (begins_fraction bytes ≡ false))
fraction_is [] = inr (refl, refl)
fraction_is (b ∷ bytes) =
    elim (cases_Bool (b == 46)) [
      | inl point ↦
          elim (cases_Bool (nat_lt 0 (prefix_len is_digit bytes))) [
            | inl digit ↦
                let r = split is_digit bytes in
                let positive = ltb-true 0 _ digit in
                inl (record {
                  digits = r.front;
                  rest = r.rest;
                  joined = rw (← r.joined) (cc (eqb-true b 46 point));
                  long = rw (point, digit) (omega arith);
                  some = omega arith;
                  all = r.all;
                  ended = r.ended;
                })
            | inr without ↦ inr (rw (point, without) refl, rw point (none_passes is_digit bytes without))
          ]
      | inr other ↦ inr (rw other refl, rw other refl)
    ]

-- Words as lanes, and the last 1 below a place.
use Rattle.std.proofs.Common.{ℕ, ◌≡◌, ◌<◌, ◌≤◌, ◌+◌, ◌-◌, ◌*◌, ◌/◌, ◌%◌, ◌^◌, eqb, List, length, get_or}
use Rattle.std.proofs.Common.{bit_and, bit_xor, refl, sym, ap, ◌∙◌, subst, arith, inl, inr, suc, false, not, cond, map}
use Rattle.std.specs.Int.{bit_at}
use lib.Count.{count_leading_zeros}
use lib.Lanes.{zip2, mask_l}
use Rattle.std.proofs.Math.ListN.{get_or-eq_default}
use Rattle.std.proofs.Math.Nat.{pow-suc, mul_comm}
use Rattle.std.proofs.lemmas.Bool.{cases_lt, cases_eq, eqb-true, eq-eqb, ne_eqb}
use Rattle.std.proofs.lemmas.Nat.{leading_top, div-mul-add}
use Rattle.std.proofs.lemmas.Nat.Bits.{bit_at_and, bit_at_xor, bit_at_ones, bit_at_above, bit_at-lt, bit_at-zero}
use Rattle.std.proofs.lemmas.Nat.Bits.{bit_at_ones_above}
use Rattle.std.proofs.lemmas.List.{get_or-map}
use Rattle.std.proofs.lemmas.Simd.{length-zip2, get_or-zip2, bit_mask_l}
use Rattle.fx_points.specs.Points.{AreWords, AreZeros, IsLastBit, IsLastOne}
use Rattle.fx_points.proofs.Checks.{passes}

-- the place of the last 1
pub last_bit_is : (w : ℕ) → 0 < w → w < 2 ^ 64 → IsLastBit w (63 - count_leading_zeros 64 w)
last_bit_is w some fits =
    let top = leading_top 64 w some fits in
    let j = top.0 in
    let place : 63 - count_leading_zeros 64 w ≡ j = omega arith in
    subst (IsLastBit w) (sym place) (record {
      inside = omega arith;
      one = one w j top.2 top.3;
      after = λ i above low. bit_at_above w (suc j) i top.3 above;
    })
  where
    double : (j : ℕ) → 2 ^ suc j ≡ 2 * 2 ^ j
    double j = pow-suc 2 j ∙ mul_comm (2 ^ j) 2

    quotient : (w p : ℕ) → p ≤ w → w < 2 * p → w / p ≡ 1
    quotient w p least most = let parts : w ≡ 1 * p + (w - p) = omega arith in
        cc (div-mul-add 1 p (w - p) (omega arith))

    one : (w j : ℕ) → 2 ^ j ≤ w → w < 2 ^ suc j → bit_at w j ≡ 1
    one w j least most =
        let half : w < 2 * 2 ^ j = rw (double j) at most in
        cc (quotient w (2 ^ j) least half)

pub shift_fits : (s : ℕ) → s < 64 → 1 * 2 ^ s % 2 ^ 64 ≡ 2 ^ s
shift_fits s low = eqb-true _ _ (passes (λ s. eqb (1 * 2 ^ s % 2 ^ 64) (2 ^ s)) 64 s refl low)

-- the bits below a place
pub low_bit : (w s i : ℕ) → s < 64 → i < s → bit_at (bit_and w (1 * 2 ^ s % 2 ^ 64 - 1)) i ≡ bit_at w i
low_bit w s i low under =
    let e = bit_at_and w (2 ^ s - 1) i in
    let one = bit_at_ones s i under in
    let small = bit_at-lt w i in
    ap (λ k. bit_at (bit_and w (k - 1)) i) (shift_fits s low) ∙ omega arith

pub high_bit : (w s i : ℕ) → s < 64 → s ≤ i → bit_at (bit_and w (1 * 2 ^ s % 2 ^ 64 - 1)) i ≡ 0
high_bit w s i low above =
    let e = bit_at_and w (2 ^ s - 1) i in
    let none = bit_at_ones_above s i above in
    ap (λ k. bit_at (bit_and w (k - 1)) i) (shift_fits s low) ∙ omega arith

-- a 1 below the place
one_below : (w s i : ℕ) → s < 64 → bit_at (bit_and w (1 * 2 ^ s % 2 ^ 64 - 1)) i ≡ 1 → (i < s) × (bit_at w i ≡ 1)
one_below w s i low one =
    elim (cases_lt i s) [
      | inl under ↦ (under, sym (low_bit w s i low under) ∙ one)
      | inr above ↦ absurd (let none = high_bit w s i low above in omega arith)
    ]

-- in the word that has the place x
module _ (words : List ℕ) (x : ℕ) where
  abbrev rest : ℕ
  rest = bit_and (get_or words (x / 64) 0) (1 * 2 ^ (x % 64) % 2 ^ 64 - 1)

  pub word_zeros : rest ≡ 0 → AreZeros words (64 * (x / 64)) x
  word_zeros none = record {
    zeros = λ z above low.
        let block : z / 64 ≡ x / 64 = omega arith in
        let under : z % 64 < x % 64 = omega arith in
        cc (low_bit (get_or words (x / 64) 0) (x % 64) (z % 64) (omega arith) under, bit_at-zero (z % 64));
  }

  pub word_last : (p : ℕ) → IsLastBit rest p → IsLastOne words x (64 * (x / 64) + p)
  word_last p last =
      let w = get_or words (x / 64) 0 in
      let one = one_below w (x % 64) p (omega arith) last.one in
      let under = one.0 in
      let y : ℕ = 64 * (x / 64) + p in
      let block : y / 64 ≡ x / 64 = omega arith in
      let place : y % 64 ≡ p = omega arith in
      record {
        below = omega arith;
        one = ap (λ k. bit_at (get_or words k 0) (y % 64)) block ∙ ap (bit_at w) place ∙ one.1;
        between = record {
          zeros = λ z above low.
              let same : z / 64 ≡ x / 64 = omega arith in
              let less : z % 64 < x % 64 = omega arith in
              ap (λ k. bit_at (get_or words k 0) (z % 64)) same ∙ sym (low_bit w (x % 64) (z % 64) (omega arith) less)
              ∙ last.after (z % 64) (omega arith) (omega arith);
        };
      }

-- in the first words, where a number tells which have a 1
module _ (words : List ℕ) (count some : ℕ) (fits : count ≤ 16)
    (none : (i : ℕ) → i < 16 → bit_at some i ≡ 0 → get_or words i 0 ≡ 0) where
  abbrev before : ℕ
  before = bit_and some (1 * 2 ^ count % 2 ^ 64 - 1)

  no_word : (i : ℕ) → i < count → bit_at before i ≡ 0 → get_or words i 0 ≡ 0
  no_word i low zero_bit = none i (omega arith) (sym (low_bit some count i (omega arith) low) ∙ zero_bit)

  pub words_zeros : before ≡ 0 → AreZeros words 0 (64 * count)
  words_zeros is = record {
    zeros = λ z above low.
        cc (
          no_word (z / 64) (omega arith) (ap (λ w. bit_at w (z / 64)) is ∙ bit_at-zero (z / 64)),
          bit_at-zero (z % 64),
        );
  }

  pub last_word : (l : ℕ) → IsLastBit before l → (l < count) × (bit_at some l ≡ 1)
  last_word l last = one_below some count l (omega arith) last.one

  pub words_last : (l p : ℕ) → IsLastBit before l → IsLastBit (get_or words l 0) p
      → IsLastOne words (64 * count) (64 * l + p)
  words_last l p last inner =
      let under = (last_word l last).0 in
      let inside = inner.inside in
      let y : ℕ = 64 * l + p in
      let block : y / 64 ≡ l = omega arith in
      let place : y % 64 ≡ p = omega arith in
      record {
        below = omega arith;
        one = ap (λ k. bit_at (get_or words k 0) (y % 64)) block ∙ ap (bit_at (get_or words l 0)) place ∙ inner.one;
        between = record {
          zeros = λ z above low.
              elim (cases_eq (z / 64) l) [
                | inl here ↦
                    ap (λ k. bit_at (get_or words k 0) (z % 64)) here ∙ inner.after (z % 64) (omega arith) (omega arith)
                | inr later ↦
                    ap (λ w. bit_at w (z % 64))
                    (no_word (z / 64) (omega arith) (last.after (z / 64) (omega arith) (omega arith)))
                    ∙ bit_at-zero (z % 64)
              ];
        };
      }

-- the last 1 before some zeros
pub zeros_after : (words : List ℕ) (x y z : ℕ) → z ≤ x → IsLastOne words z y → AreZeros words z x → IsLastOne words x y
zeros_after words x y z le last zeros = record {
  below = omega arith;
  one = last.one;
  between = record {
    zeros = λ i above low. elim (cases_lt i z)
        [ inl under ↦ last.between.zeros i above under | inr over ↦ zeros.zeros i over low ];
  };
}

pub zeros_both : (words : List ℕ) (x z : ℕ) → AreZeros words 0 z → AreZeros words z x → AreZeros words 0 x
zeros_both words x z low high = record {
  zeros = λ i above under. elim (cases_lt i z)
      [ inl less ↦ low.zeros i above less | inr over ↦ high.zeros i over under ];
}

-- the bit of an exclusive or with all ones
pub flipped : (w i : ℕ) → i < 64 → bit_at (bit_xor w (2 ^ 64 - 1)) i ≡ 1 - bit_at w i
flipped w i low =
    let e = bit_at_xor w (2 ^ 64 - 1) i in
    let one = bit_at_ones 64 i low in
    let small = bit_at-lt w i in
    omega arith

-- words that are made lane by lane
pub words_of_lanes : (f : ℕ → ℕ → ℕ) (xs ys : List ℕ) → length xs ≡ 16 → length ys ≡ 16
    → ((i : ℕ) → i < 16 → f (get_or xs i 0) (get_or ys i 0) < 2 ^ 64) → AreWords (zip2 f xs ys)
words_of_lanes f xs ys one two fits =
    let len = length-zip2 f xs ys (one ∙ sym two) in
    record {
      len = len ∙ one;
      fit = λ i. elim (cases_lt i 16) [
        | inl low ↦
            let at = get_or-zip2 f xs ys i 0 0 0 (omega arith) (omega arith) in
            subst (λ k. k < 2 ^ 64) (sym at) (fits i low)
        | inr high ↦ let none = past (zip2 f xs ys) i (omega (arith, len)) in
            subst (λ k. k < 2 ^ 64) (sym none) (omega arith)
      ];
    }
  where
    past : (ws : List ℕ) (i : ℕ) → length ws ≤ i → get_or ws i 0 ≡ 0
    past ws i le = get_or-eq_default ws 0 le

one_zero : ◌≡◌ {A = ℕ} 1 0 → ⊥
one_zero e = omega arith

-- what the bit for a word says of it
bit_of_word : (words : List ℕ) (i : ℕ) → AreWords words → i < 16
    → bit_at (mask_l (map (λ w. not (eqb w 0)) words)) i ≡ cond (not (eqb (get_or words i 0) 0)) 1 0
bit_of_word words i are low =
    cc (
      bit_mask_l (map (λ w. not (eqb w 0)) words) i,
      get_or-map (λ w. not (eqb w 0)) words i 0 false (omega (arith, are.len)),
    )

pub none_of : (words : List ℕ) (i : ℕ) → AreWords words → i < 16
    → bit_at (mask_l (map (λ w. not (eqb w 0)) words)) i ≡ 0 → get_or words i 0 ≡ 0
none_of words i are low zero_bit = decide (get_or words i 0) (sym (bit_of_word words i are low) ∙ zero_bit)
  where
    decide : (w : ℕ) → ◌≡◌ {A = ℕ} (cond (not (eqb w 0)) 1 0) 0 → w ≡ 0
    decide w e = elim (cases_eq w 0) [ inl is ↦ is | inr ne ↦ absurd (one_zero (rw (ne_eqb w 0 ne) at e)) ]

pub some_of : (words : List ℕ) (i : ℕ) → AreWords words → i < 16
    → bit_at (mask_l (map (λ w. not (eqb w 0)) words)) i ≡ 1 → 0 < get_or words i 0
some_of words i are low one = decide (get_or words i 0) (sym (bit_of_word words i are low) ∙ one)
  where
    decide : (w : ℕ) → ◌≡◌ {A = ℕ} (cond (not (eqb w 0)) 1 0) 1 → 0 < w
    decide w e =
        elim (cases_eq w 0) [ inl is ↦ absurd (one_zero (sym (rw (eq-eqb w 0 is) at e))) | inr ne ↦ omega arith ]

-- The numbers of a set and its words.
use Rattle.std.proofs.Common.{ℕ, ◌≡◌, ◌<◌, ◌+◌, ◌*◌, ◌/◌, ◌%◌, ◌^◌, zero, suc, Bool, true, false, cond, ◌&&◌, eqb}
use Rattle.std.proofs.Common.{List, [], map, get_or, replicate, refl, sym, ap, ◌∙◌, subst, arith}
use Rattle.std.specs.List.{list_any, range_with_len}
use Rattle.std.specs.Int.{bit_at}
use lib.Lanes.{mask_l}
use Rattle.std.proofs.lemmas.Bool.{eqb-true, eq-eqb}
use Rattle.std.proofs.lemmas.List.Folds.{list_any_at}
use Rattle.std.proofs.lemmas.List.FromFn.{length-range_with_len, get_or-range_with_len, length-map-range_with_len}
use Rattle.std.proofs.lemmas.List.FromFn.{get_or-map-range_with_len, fill_by_all}
use Rattle.std.proofs.lemmas.Map.Views.{any-filter_same}
use Rattle.std.proofs.lemmas.Nat.Bits.{same_from_bits_below, bit_at-lt}
use Rattle.std.proofs.lemmas.Simd.{bit_mask_l, mask_l-lt}
use Rattle.fx_points.specs.Points.{PointsView, has, is_one, bit_in, members_of, word_at, words_with, AreWords}

in_range : (n x : ℕ) → x < n → list_any (λ y. eqb y x) (range_with_len 0 n) ≡ true
in_range n x low =
    let is : get_or (range_with_len 0 n) x 0 ≡ x = omega (arith, get_or-range_with_len 0 n x 0 low) in
    list_any_at (λ y. eqb y x) (range_with_len 0 n) x 0 (subst (λ k. x < k) (sym (length-range_with_len 0 n)) low)
    (eq-eqb (get_or (range_with_len 0 n) x 0) x is)

and_true : (b : Bool) → (b && true) ≡ b
and_true true = refl
and_true false = refl

-- a number is in the set where its bit is 1
pub has_is : (words : List ℕ) (x : ℕ) → x < 1024 → list_any (λ y. eqb y x) (members_of words) ≡ is_one words x
unfolding members_of
has_is words x low =
    any-filter_same (λ y. eqb y x) (is_one words) (is_one words x) (λ k e. ap (is_one words) (eqb-true k x e))
    (range_with_len 0 1024) ∙ ap (λ b. is_one words x && b) (in_range 1024 x low) ∙ and_true (is_one words x)

pub has_of : (set : PointsView) (q m : ℕ) (words : List ℕ) (x : ℕ)
    → record { q = q; m = m; numbers = members_of words } ≡ set → x < 1024 → has set x ≡ is_one words x
has_of set q m words x is low = sym (ap (λ (v : PointsView). has v x) is) ∙ has_is words x low

-- words without a 1 have no numbers
pub no_numbers : members_of (replicate 16 0) ≡ []
unfolding members_of
no_numbers = refl

one_of : (b : ℕ) → b < 2 → cond (eqb b 1) 1 0 ≡ b
one_of zero low = refl
one_of (suc zero) low = refl
one_of (suc (suc n)) low = absurd (omega arith)

module _ (words : List ℕ) (are : AreWords words) (i : ℕ) (low : i < 16) where
  abbrev test : ℕ → Bool
  test k = list_any (λ y. eqb y (64 * i + k)) (members_of words)

  fits : word_at (members_of words) i < 2 ^ 64
  fits = subst (λ n. mask_l (map test (range_with_len 0 64)) < 2 ^ n) (length-map-range_with_len test 0 64)
      (mask_l-lt (map test (range_with_len 0 64)))

  bits : (k : ℕ) → k < 64 → bit_at (word_at (members_of words) i) k ≡ bit_at (get_or words i 0) k
  bits k low_k =
      let x : ℕ = 64 * i + k in
      let block : x / 64 ≡ i = omega arith in
      let place : x % 64 ≡ k = omega arith in
      let from : 0 + k ≡ k = omega arith in
      let first : bit_at (word_at (members_of words) i) k ≡ cond (is_one words x) 1 0 =
      bit_mask_l (map test (range_with_len 0 64)) k
      ∙ ap (λ b. cond b 1 0) (get_or-map-range_with_len test 0 64 k k false low_k from ∙ has_is words x (omega arith))
      in
      first ∙ one_of (bit_in words x) (bit_at-lt (get_or words (x / 64) 0) (x % 64))
      ∙ ap (λ j. bit_at (get_or words j 0) (x % 64)) block ∙ ap (bit_at (get_or words i 0)) place

  word_again : get_or words i 0 ≡ word_at (members_of words) i
  word_again = sym (same_from_bits_below 64 (word_at (members_of words) i) (get_or words i 0) fits (are.fit i) bits)

-- the words are those of the numbers of their set
pub words_again : (words : List ℕ) → AreWords words → words_with (members_of words) ≡ words
unfolding words_with
words_again words are =
    sym (fill_by_all (word_at (members_of words)) words 16 0 are.len (λ k low. word_again words are k low))

-- Bits that are exchanged in all lanes.
use Rattle.std.proofs.Common.{ℕ, ◌≡◌, ◌<◌, ◌≤◌, ◌*◌, ◌/◌, ◌%◌, ◌^◌, List, length, get_or, replicate, bit_and, bit_or}
use Rattle.std.proofs.Common.{slice_index, ltb, refl, ap₂, ◌∙◌, arith}
use lib.Bits.{and_le_r}
use lib.Lanes.{zip2}
use Rattle.std.proofs.lemmas.Bool.{ltb-true}
use Rattle.std.proofs.lemmas.Nat.{or_lt}
use Rattle.std.proofs.lemmas.Simd.{length-zip2, get_or-zip2, get_or-replicate}
use Rattle.fx_points.specs.declared.swap.TheConstants.{HALVES}
use Rattle.fx_points.specs.Points.{AreWords}
use Rattle.fx_points.proofs.Checks.{passes}
use Rattle.fx_points.proofs.LastOnes.{words_of_lanes}

pub half_below : (b : ℕ) → b < 6 → slice_index HALVES b < 2 ^ 64
half_below b low = ltb-true _ _ (passes (λ b. ltb (slice_index HALVES b) (2 ^ 64)) 6 b refl low)

abbrev left_of : ℕ → ℕ → ℕ
left_of x s = x * 2 ^ s % 2 ^ 64

abbrev right_of : ℕ → ℕ → ℕ
right_of x s = x / 2 ^ s

module _ (words : List ℕ) (h s : ℕ) where
  abbrev halves : List ℕ
  halves = replicate 16 h

  abbrev places : List ℕ
  places = replicate 16 s

  abbrev lefts : List ℕ
  lefts = zip2 left_of (zip2 bit_and words halves) places

  abbrev rights : List ℕ
  rights = zip2 bit_and (zip2 right_of words places) halves

  module _ (len : length words ≡ 16) where
    masked_len : length (zip2 bit_and words halves) ≡ 16
    masked_len = length-zip2 bit_and words halves len ∙ len

    lefts_len : length lefts ≡ 16
    lefts_len = length-zip2 left_of (zip2 bit_and words halves) places masked_len ∙ masked_len

    shifted_len : length (zip2 right_of words places) ≡ 16
    shifted_len = length-zip2 right_of words places len ∙ len

    rights_len : length rights ≡ 16
    rights_len = length-zip2 bit_and (zip2 right_of words places) halves shifted_len ∙ shifted_len

    left_at : (k : ℕ) → k < 16 → get_or lefts k 0 ≡ bit_and (get_or words k 0) h * 2 ^ s % 2 ^ 64
    left_at k low =
        cc (
          get_or-zip2 left_of (zip2 bit_and words halves) places k 0 0 0 (omega (arith, masked_len)) (omega arith),
          get_or-zip2 bit_and words halves k 0 0 0 (omega (arith, len)) (omega arith),
          get_or-replicate 16 k h 0 low,
          get_or-replicate 16 k s 0 low,
        )

    right_at : (k : ℕ) → k < 16 → get_or rights k 0 ≡ bit_and (get_or words k 0 / 2 ^ s) h
    right_at k low =
        cc (
          get_or-zip2 bit_and (zip2 right_of words places) halves k 0 0 0 (omega (arith, shifted_len)) (omega arith),
          get_or-zip2 right_of words places k 0 0 0 (omega (arith, len)) (omega arith),
          get_or-replicate 16 k s 0 low,
          get_or-replicate 16 k h 0 low,
        )

    pub lane_of : (k : ℕ) → k < 16 → get_or (zip2 bit_or lefts rights) k 0
        ≡ bit_or (bit_and (get_or words k 0) h * 2 ^ s % 2 ^ 64) (bit_and (get_or words k 0 / 2 ^ s) h)
    lane_of k low =
        get_or-zip2 bit_or lefts rights k 0 0 0 (omega (arith, lefts_len)) (omega (arith, rights_len))
        ∙ ap₂ bit_or (left_at k low) (right_at k low)

  pub lanes_fit : AreWords words → h < 2 ^ 64 → AreWords (zip2 bit_or lefts rights)
  lanes_fit are fits =
      words_of_lanes bit_or lefts rights (lefts_len are.len) (rights_len are.len)
      (λ i low. or_lt 64 (get_or lefts i 0) (get_or rights i 0)
      (let at = left_at are.len i low in let small = below (bit_and (get_or words i 0) h * 2 ^ s) in omega arith)
      (let at = right_at are.len i low in let small = and_right (get_or words i 0 / 2 ^ s) in omega arith))
    where
      below : (n : ℕ) → n % 2 ^ 64 < 2 ^ 64
      below n = omega arith

      and_right : (n : ℕ) → bit_and n h ≤ h
      and_right n = and_le_r n h

use Rattle.std.proofs.Common.{ℕ, ◌≡◌, ◌<◌, ◌-◌, ◌^◌, ◌%◌, ◌/◌, bit_xor, get_or, replicate, refl, arith}
use Rattle.std.proofs.lemmas.Nat.{xor_lt}
use Rattle.std.proofs.lemmas.Simd.{get_or-zip2, get_or-replicate}
use Rattle.fx_points.proofs.LastOnes.{words_of_lanes, flipped}
use Rattle.fx_points.proofs.lanes.complement.Goals as goal

ones : (i : ℕ) → i < 16 → get_or (replicate 16 (2 ^ 64 - 1)) i 0 ≡ 2 ^ 64 - 1
ones i low = get_or-replicate 16 i (2 ^ 64 - 1) 0 low

pub returns-clause-words : goal.returns-clause-words
returns-clause-words c =
    words_of_lanes bit_xor c.args.words (replicate 16 (2 ^ 64 - 1)) c.requires.words.len refl
    (λ i low. xor_lt 64 _ _ (c.requires.words.fit i) (let one = ones i low in omega arith))

pub returns-clause-bits : goal.returns-clause-bits
returns-clause-bits c x low =
    cc (
      get_or-zip2 bit_xor c.args.words (replicate 16 (2 ^ 64 - 1)) (x / 64) 0 0 0
          (omega (arith, c.requires.words.len)) (omega arith),
      ones (x / 64) (omega arith),
      flipped (get_or c.args.words (x / 64) 0) (x % 64) (omega arith),
    )

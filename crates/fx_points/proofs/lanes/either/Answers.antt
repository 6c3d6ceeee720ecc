use Rattle.std.proofs.Common.{◌%◌, ◌/◌, bit_or, arith}
use Rattle.std.proofs.lemmas.Nat.{or_lt}
use Rattle.std.proofs.lemmas.Simd.{get_or-zip2}
use Rattle.fx_points.proofs.Words.{or_bit}
use Rattle.fx_points.proofs.LastOnes.{words_of_lanes}
use Rattle.fx_points.proofs.lanes.either.Goals as goal

pub returns-clause-words : goal.returns-clause-words
returns-clause-words c =
    words_of_lanes bit_or c.args.words c.args.others c.requires.words.len c.requires.others.len
    (λ i low. or_lt 64 _ _ (c.requires.words.fit i) (c.requires.others.fit i))

pub returns-clause-either : goal.returns-clause-either
returns-clause-either c x low =
    cc (
      get_or-zip2 bit_or c.args.words c.args.others (x / 64) 0 0 0 (omega (arith, c.requires.words.len))
          (omega (arith, c.requires.others.len)),
      or_bit _ _ (x % 64),
    )

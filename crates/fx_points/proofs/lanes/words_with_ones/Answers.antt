use Rattle.std.proofs.Common.{not, eqb, w64, arith}
use Rattle.std.proofs.lemmas.Simd.{bitmask_splat}
use Rattle.fx_points.proofs.LastOnes.{none_of, some_of}
use Rattle.fx_points.proofs.lanes.words_with_ones.Goals as goal

pub returns-clause-none : goal.returns-clause-none
returns-clause-none c i low zero =
    none_of c.args.words.now i c.requires low
    (cc (bitmask_splat w64 (λ a b. not (eqb a b)) c.args.words.now 16 0 c.requires.len (omega arith)))

pub returns-clause-some : goal.returns-clause-some
returns-clause-some c i low one =
    some_of c.args.words.now i c.requires low
    (cc (bitmask_splat w64 (λ a b. not (eqb a b)) c.args.words.now 16 0 c.requires.len (omega arith)))

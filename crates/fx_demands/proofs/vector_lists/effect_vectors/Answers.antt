use Rattle.std.proofs.Common.{ℕ, ◌+◌, ◌^◌, ◌<◌, ◌≤◌, List, sym, subst, arith}
use Rattle.std.specs.Prelude.{All}
use Rattle.std.proofs.Math.Nat.{pow-le-pow_right}
use Rattle.fx_designs.specs.Vectors.{IsVector}
use Rattle.fx_demands.proofs.EffectVectors.{all-vectors}
use Rattle.fx_demands.proofs.vector_lists.effect_vectors.Goals as goal

pub longer-requires-clause-vectors : goal.longer-requires-clause-vectors
longer-requires-clause-vectors c =
    let all =
    all-vectors c.args.field c.args.effect.now.0 c.loop-i.i
    (omega arith) in
    rw c.from.ensures (subst (λ (l : List (List ℕ)). All (IsVector c.args.field c.loop-i.i) l) (sym c.loop-i.invariant)
    all)

pub longer-requires-clause-fits : goal.longer-requires-clause-fits
longer-requires-clause-fits c =
    let some : 0 < c.args.field = omega (arith, c.q-known.ensures.least, c.q-known.ensures.order) in
    let less : c.args.field ^ (c.loop-i.i + 1) ≤ c.args.field ^ c.args.s = pow-le-pow_right some (omega arith) in
    rw c.from.ensures (omega (arith, less, c.requires.fits))

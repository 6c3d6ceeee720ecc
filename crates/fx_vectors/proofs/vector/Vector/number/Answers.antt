use Rattle.std.proofs.Common.{◌≡◌, ◌<◌, ◌+◌, ◌*◌, ◌-◌, ◌^◌, drop, get_or, arith, ◌∙◌}
use Rattle.fx_designs.specs.Galois.{number}
use Rattle.fx_laws.proofs.Codes.{number-below}
use Rattle.fx_vectors.proofs.Steps.{number_before, number_fits}
use Rattle.fx_vectors.proofs.vector.Vector.number.Goals as goal
use Rattle.fx_vectors.proofs.vector.Vector.number.Goals.{In-loop-i}

-- the number of the codes from the one before i on, of which the loop has that from i on
next_is : (c : In-loop-i)
    → c.loop-i.number * c.from-q.result + get_or c.args.self.now (c.loop-i.i - 1) 0
    ≡ number c.args.field (drop (c.loop-i.i - 1) c.args.self.now)
next_is c =
    let q : c.from-q.result ≡ c.args.field = c.from-q.ensures ∙ c.q.ensures.order in
    rw (q, c.loop-i.invariant) (number_before c.args.field c.args.self.now c.loop-i.i c.loop-i-test.true (omega arith))

next_fits : (c : In-loop-i) → c.loop-i.number * c.from-q.result + get_or c.args.self.now (c.loop-i.i - 1) 0 < 2 ^ 128
next_fits c =
    rw (next_is c)
    (number_fits c.args.field _ c.args.self.now (c.loop-i.i - 1) (omega (arith, c.q.ensures.least)) c.requires.fits
    c.requires.vector)

pub overflow_mul-number : goal.overflow_mul-number
overflow_mul-number c = omega (arith, next_fits c)

pub overflow_add-number : goal.overflow_add-number
overflow_add-number c =
    let code : c.from.result ≡ get_or c.args.self.now (c.loop-i.i - 1) 0 = c.from.ensures ∙ c.code.ensures in
    omega (arith, next_fits (goal.at.overflow_add-number c).In-loop-i)

pub loop-i-preserved : goal.loop-i-preserved
loop-i-preserved c = rw (c.from.ensures, c.code.ensures) (next_is (goal.at.loop-i-preserved c).In-loop-i)

pub returns-clause-below : goal.returns-clause-below
returns-clause-below c =
    let none : c.loop-i.i ≡ 0 = omega arith in
    let whole : c.loop-i.number ≡ number c.args.field c.args.self.now =
    cc (c.loop-i.invariant, none) in
    rw whole (number-below c.args.field _ c.args.self.now c.requires.vector)

use Rattle.std.proofs.Common.{◌≡◌, ◌<◌, ◌≤◌, ◌^◌, ◌∙◌, length, arith}
use Rattle.std.specs.List.{AllByRecursion}
use Rattle.std.proofs.lemmas.List.{take_all}
use Rattle.std.proofs.lemmas.List.Elements.{recursion_from_All}
use Rattle.fx_derived.proofs.Digits.{step, code_below}
use Rattle.fx_derived.proofs.code.derived_code.Goals as goal
use Rattle.fx_derived.proofs.code.derived_code.Goals.{After-from-q}

order_is : (c : After-from-q) → c.from-q.result ≡ c.args.field
order_is c = c.from-q.ensures ∙ c.q.ensures.order

each : (c : After-from-q) → AllByRecursion (λ x. x < c.from-q.result) c.args.codes.now
each c = rw (order_is c) (recursion_from_All _ c.args.codes.now c.requires.codes)

some : (c : After-from-q) → 0 < c.from-q.result
some c = omega arith

few : (c : After-from-q) → c.from-q.result ^ length c.args.codes.now ≤ 64
few c = rw (order_is c) c.requires.levels

pub overflow_mul-code : goal.overflow_mul-code
overflow_mul-code c =
    let w = (goal.at.overflow_mul-code c).After-from-q in
    let s = step c.from-q.result c.args.codes.now c.loop-c.c-index (some w) c.loop-c-test.true (each w) c.loop-c.code
    c.loop-c.invariant in
    omega (arith, few w)

pub overflow_add-code : goal.overflow_add-code
overflow_add-code c =
    let w = (goal.at.overflow_add-code c).After-from-q in
    let s = step c.from-q.result c.args.codes.now c.loop-c.c-index (some w) c.loop-c-test.true (each w) c.loop-c.code
    c.loop-c.invariant in
    rw c.from.ensures (omega (arith, few w))

pub loop-c-preserved : goal.loop-c-preserved
loop-c-preserved c =
    let w = (goal.at.loop-c-preserved c).After-from-q in
    rw c.from.ensures
    (step c.from-q.result c.args.codes.now c.loop-c.c-index (some w) c.loop-c-test.true (each w) c.loop-c.code
    c.loop-c.invariant).0

pub returns-clause-code : goal.returns-clause-code
returns-clause-code c =
    c.loop-c.invariant ∙ rw (order_is (goal.at.returns-clause-code c).After-from-q)
    (cc (take_all c.loop-c.c-index c.args.codes.now c.loop-c-test.false))

pub returns-clause-below : goal.returns-clause-below
returns-clause-below c =
    rw (returns-clause-code c) (code_below c.args.field c.args.codes.now
    (recursion_from_All _ c.args.codes.now c.requires.codes))

use Rattle.std.proofs.Common.{rules, ◌≡◌, ◌∙◌}
use Rattle.std.proofs.Common.{arith}
use Rattle.fx_judge.specs.Bases.{basic_key}
use Rattle.fx_judge.proofs.Keys.{key_in, key_out, key_fits, key_below}
use Rattle.fx_judge.proofs.combinations.key_of.Goals as goal

pub overflow_mul-key : goal.overflow_mul-key
overflow_mul-key c =
    omega (
      arith,
      key_fits c.args.field c.args.basic.now c.args.d.now c.loop-i.i c.loop-i.key c.from-q.result
          c.from.result
          (omega arith) (omega arith) (omega (arith))
          c.requires.vector c.requires.combinations (search rules)
          c.loop-i.invariant (c.from-q.ensures ∙ c.q.ensures.order) (c.from.ensures ∙ c.code.ensures),
    )

pub overflow_add-key : goal.overflow_add-key
overflow_add-key c =
    omega (
      arith,
      key_fits c.args.field c.args.basic.now c.args.d.now c.loop-i.i c.loop-i.key c.from-q.result
          c.from.result
          (omega arith) (omega arith) (omega (arith))
          c.requires.vector c.requires.combinations (search rules)
          c.loop-i.invariant (c.from-q.ensures ∙ c.q.ensures.order) (c.from.ensures ∙ c.code.ensures),
    )

pub loop-i-preserved-then-basic-i : goal.loop-i-preserved-then-basic-i
loop-i-preserved-then-basic-i c =
    let q = c.from-q.ensures ∙ c.q.ensures.order in
    let long = c.requires.vector.len in
    cc (
      c.from.ensures,
      c.code.ensures,
      c.loop-i.invariant,
      key_in c.args.field c.args.basic.now c.args.d.now c.loop-i.i
          (omega arith) (omega arith)
          (omega arith) (search rules),
    )

pub loop-i-preserved : goal.loop-i-preserved
loop-i-preserved c =
    let long = c.requires.vector.len in
    c.loop-i.invariant
    ∙ key_out c.args.field c.args.basic.now c.args.d.now c.loop-i.i (omega arith) (omega arith)
    (omega arith) (search rules)

pub returns-clause-below : goal.returns-clause-below
returns-clause-below c =
    let none : c.loop-i.i ≡ 0 = omega arith in
    let whole : c.loop-i.key ≡ basic_key c.args.field c.args.basic.now c.args.d.now =
    cc c.loop-i.invariant in
    rw whole (key_below c.args.field c.args.basic.now c.args.d.now c.requires.vector)

use Rattle.std.proofs.Common.{rules, ◌≡◌, ◌<◌, ◌∙◌, sym, ap, arith}
use Rattle.std.proofs.Math.Nat.{one-le-pow}
use Rattle.fx_designs.specs.Galois.{number}
use Rattle.fx_designs.specs.Vectors.{weight}
use Rattle.fx_laws.proofs.Space.{combination-vector}
use Rattle.fx_laws.proofs.CanonicalTest.{rows-vectors}
use Rattle.fx_laws.proofs.Tables.{is_order-field}
use Rattle.fx_alias.specs.Classes.{class_number}
use Rattle.fx_alias.proofs.ClassNumbers.{constant_number}
use Rattle.fx_alias.proofs.Multiples.{weightless_number}
use Rattle.fx_alias.proofs.class.class_number.Goals as goal

pub returns-then-weight-eq0-clause-number : goal.returns-then-weight-eq0-clause-number
returns-then-weight-eq0-clause-number c =
    let q = c.args.matrix.now.shape.q in
    let m = c.args.matrix.now.shape.m in
    let f = is_order-field q c.shape.ensures.valid.shaped.order in
    let none : weight c.sum_of_rules-sum.result ≡ 0 = search rules in
    sym (weightless_number q f m _ (combination-vector q m f c.args.u.now _ (rows-vectors q m f c.args.matrix.now.rows))
    (ap weight (sym c.sum_of_rules-sum.ensures.sum) ∙ none))

pub returns-clause-number : goal.returns-clause-number
unfolding class_number
returns-clause-number c =
    let q = c.args.matrix.now.shape.q in
    let order : c.field-field.result ≡ q = search rules in
    cc (c.number.ensures.number, c.normal.ensures.multiple, c.sum_of_rules-sum.ensures.sum)

pub returns-then-weight-eq0-clause-constant : goal.returns-then-weight-eq0-clause-constant
returns-then-weight-eq0-clause-constant c =
    cc (
      constant_number c.args.matrix.now.shape.q
          (is_order-field c.args.matrix.now.shape.q c.shape.ensures.valid.shaped.order) c.args.matrix.now.shape.m
          c.args.matrix.now.rows c.args.u.now,
      returns-then-weight-eq0-clause-number c,
    )

pub returns-clause-constant : goal.returns-clause-constant
returns-clause-constant c =
    cc (
      constant_number c.args.matrix.now.shape.q
          (is_order-field c.args.matrix.now.shape.q c.shape.ensures.valid.shaped.order) c.args.matrix.now.shape.m
          c.args.matrix.now.rows c.args.u.now,
      returns-clause-number c,
    )

pub returns-then-weight-eq0-clause-below : goal.returns-then-weight-eq0-clause-below
returns-then-weight-eq0-clause-below c =
    let q = c.args.matrix.now.shape.q in
    let f = is_order-field q c.shape.ensures.valid.shaped.order in
    let some : 0 < q = omega arith in
    let size = one-le-pow c.args.matrix.now.shape.m q some in
    size

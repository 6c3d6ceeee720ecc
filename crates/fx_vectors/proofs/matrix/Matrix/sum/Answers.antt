use Rattle.std.proofs.Common.{◌≡◌, arith, subst, ◌∙◌, ap}
use Rattle.fx_designs.specs.Galois.{number, IsField}
use Rattle.fx_designs.specs.Vectors.{IsVector}
use Rattle.fx_laws.proofs.Tables.{is_order-field}
use Rattle.fx_laws.proofs.Space.{combination-vector}
use Rattle.fx_laws.proofs.Ranks.{zeros-plus}
use Rattle.fx_vectors.specs.Matrix.{MatrixView}
use Rattle.fx_vectors.proofs.Limits.{indexes_fit}
use Rattle.fx_vectors.proofs.Steps.{sum_more, sum_past, are_vectors}
use Rattle.fx_vectors.proofs.matrix.Matrix.sum.Goals as goal
use Rattle.fx_vectors.proofs.matrix.Matrix.sum.Goals.{After-from-m}

field_of : (c : After-from-m) → IsField c.field-field.result
field_of c =
    is_order-field c.field-field.result
    (rw c.field-field.ensures c.self.invariant.shaped.order)

pub zero-sum-requires : goal.zero-sum-requires
zero-sum-requires c = omega (arith, indexes_fit c.self.inside.shape c.self.invariant.shaped)

pub loop-i-init : goal.loop-i-init
loop-i-init c =
    let f : IsField c.field-field.result = field_of (goal.at.loop-i-init c).After-from-m in
    record {
      vector = c.zero-sum.ensures.vector c.field-field.result (omega (arith, f.more_than_one));
      so_far =
          rw c.zero-sum.ensures.zeros
          (zeros-plus c.field-field.result c.from-m.result f _
          (combination-vector c.field-field.result c.from-m.result f c.args.u.now _
          (are_vectors c.field-field.result c.from-m.result c.args.self.now.rows (omega (arith, f.more_than_one)))));
    }

pub loop-i-preserved : goal.loop-i-preserved
loop-i-preserved c =
    let f : IsField c.field-field.result = field_of (goal.at.loop-i-preserved c).After-from-m in
    record {
      vector = subst (λ n. IsVector c.field-field.result n c.add_scaled.new.self) c.loop-i.invariant.vector.len
          c.add_scaled.ensures.vector;
      so_far =
          rw (
            c.add_scaled.ensures.sum,
            c.of_number-row.ensures.digits,
            c.code.ensures,
            c.from.ensures,
            c.row.ensures.row,
          )
          (sum_more c.field-field.result c.from-m.result f c.args.u.now c.args.self.now.rows c.loop-i.i c.loop-i.sum
          (omega (arith, c.requires.len)) (omega arith)
          ∙ c.loop-i.invariant.so_far);
    }

pub number-requires-clause-fits : goal.number-requires-clause-fits
number-requires-clause-fits c =
    let runs = c.self.invariant.shaped.runs in
    rw (c.loop-i.invariant.vector.len, c.field-field.ensures, c.from-m.ensures) (omega (arith, runs))

pub returns-clause-sum : goal.returns-clause-sum
returns-clause-sum c =
    let f : IsField c.field-field.result = field_of (goal.at.returns-clause-sum c).After-from-m in
    let q : c.field-field.result ≡ c.args.self.now.shape.q =
    c.field-field.ensures ∙ ap (λ (z : MatrixView). z.shape.q) c.self.view_is in
    let m : c.from-m.result ≡ c.args.self.now.shape.m =
    c.from-m.ensures ∙ ap (λ (z : MatrixView). z.shape.m) c.self.view_is in
    let all =
    sum_past c.field-field.result c.from-m.result f c.args.u.now c.args.self.now.rows c.loop-i.i c.loop-i.sum _
    (omega (arith, c.requires.len)) c.loop-i.invariant.vector c.loop-i.invariant.so_far in
    rw (← q, ← m) (cc (c.number.ensures.number, all))

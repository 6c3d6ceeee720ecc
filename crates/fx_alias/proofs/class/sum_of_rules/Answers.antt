use Rattle.std.proofs.Common.{rules, ◌≡◌, arith, drop, get_or-drop, length-drop, sym, ◌∙◌}
use Rattle.fx_designs.specs.Galois.{IsField}
use Rattle.fx_laws.proofs.Tables.{is_order-field}
use Rattle.fx_laws.proofs.Space.{combination-vector}
use Rattle.fx_laws.proofs.Ranks.{zeros-plus}
use Rattle.fx_vectors.proofs.Steps.{sum_more, sum_past, are_vectors}
use Rattle.fx_alias.proofs.class.sum_of_rules.Goals as goal
use Rattle.fx_alias.proofs.class.sum_of_rules.Goals.{After-from-m}

field_of : (c : After-from-m) → IsField c.field-field.result
field_of c =
    let q : c.args.matrix.now.shape.q ≡ c.field-field.result = search rules in
    is_order-field c.field-field.result (rw q at c.shape-shape.ensures.valid.shaped.order)

pub loop-i-init : goal.loop-i-init
loop-i-init c =
    let f = field_of (goal.at.loop-i-init c).After-from-m in
    record {
      vector = c.zero-sum.ensures.vector c.field-field.result (omega arith);
      so_far =
          rw c.zero-sum.ensures.zeros
          (zeros-plus c.field-field.result c.from-m.result f _
          (combination-vector c.field-field.result c.from-m.result f c.args.u.now _
          (are_vectors c.field-field.result c.from-m.result (drop c.args.first c.args.matrix.now.rows)
          (omega arith))));
    }

pub loop-i-preserved : goal.loop-i-preserved
loop-i-preserved c =
    record {
      vector = rw c.loop-i.invariant.vector.len at c.add_scaled.ensures.vector;
      so_far =
          rw (
            c.add_scaled.ensures.sum,
            c.of_number-row.ensures.digits,
            c.code.ensures,
            c.from.ensures,
            c.row.ensures.row,
            sym (get_or-drop c.args.first c.args.matrix.now.rows c.loop-i.i 0),
          )
          (sum_more c.field-field.result c.from-m.result (field_of (goal.at.loop-i-preserved c).After-from-m)
          c.args.u.now (drop c.args.first c.args.matrix.now.rows)
          c.loop-i.i c.loop-i.sum (omega arith)
          (omega (arith, length-drop c.args.first c.args.matrix.now.rows))
          ∙ c.loop-i.invariant.so_far);
    }

pub returns-clause-sum : goal.returns-clause-sum
returns-clause-sum c =
    let q : c.field-field.result ≡ c.args.matrix.now.shape.q = search rules in
    let m : c.from-m.result ≡ c.args.matrix.now.shape.m = search rules in
    let all =
    sum_past c.field-field.result c.from-m.result (field_of (goal.at.returns-clause-sum c).After-from-m) c.args.u.now _
    c.loop-i.i
    c.loop-i.sum _
    (omega arith) c.loop-i.invariant.vector c.loop-i.invariant.so_far in
    rw (← q, ← m) all

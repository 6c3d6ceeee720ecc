use Rattle.std.proofs.Common.{◌≡◌, [], ◌∙◌, length, get_or, sym, ap, ap₂, arith}
use Rattle.std.proofs.lemmas.List.{take_all, take_more}
use Rattle.std.proofs.lemmas.List.Elements.{All-push, All-same}
use Rattle.fx_designs.specs.Galois.{neg}
use Rattle.fx_designs.specs.Vectors.{IsVector, plus, scale}
use Rattle.fx_laws.proofs.Tables.{is_order-field}
use Rattle.fx_judge.specs.Regular.{row_differences}
use Rattle.fx_judge.proofs.Stepping.{differences_at, differences_len}
use Rattle.fx_judge.proofs.regular.differences.Goals as goal

pub loop-i-preserved : goal.loop-i-preserved
loop-i-preserved c =
    let q = c.args.plan.now.q in
    let s = length c.args.plan.now.names in
    let rows = c.args.plan.now.rows in
    let f = is_order-field q c.field-field.ensures.valid.order in
    let x = c.copy_of-d.ensures ∙ c.row.ensures.row in
    let m : c.neg-minus_one.result ≡ neg q 1 = cc c.neg-minus_one.ensures.negative in
    let is =
    c.add_scaled.ensures.sum
    ∙ ap (λ k. plus k c.copy_of-d.result (scale k c.neg-minus_one.result c.row-in-loop-i.result.now))
    c.field-field.ensures.field
    ∙ ap₂ (λ v n. plus q v (scale q n c.row-in-loop-i.result.now)) x m
    ∙ ap (λ v. plus q (get_or rows c.loop-i.i []) (scale q (neg q 1) v)) c.row-in-loop-i.ensures.row
    ∙ sym (differences_at q f rows c.loop-i.i (omega arith)) in
    let long : length c.copy_of-d.result ≡ s =
    cc (c.copy_of-d.ensures, c.row.ensures.vector.len) in
    record {
      so_far =
          cc (
            c.in_ok-push.ensures.ok,
            c.loop-i.invariant.so_far,
            take_more (row_differences q rows) c.loop-i.i []
                (omega (arith, differences_len q f rows)),
          );
      each =
          All-same (λ d. IsVector q s d) c.push.new.self _
          c.in_ok-push.ensures.ok
          (All-push (λ d. IsVector q s d) c.loop-i.found c.add_scaled.new.self c.loop-i.invariant.each
          (rw long at (rw c.field-field.ensures.field at c.add_scaled.ensures.vector)));
    }

pub returns-clause-list : goal.returns-clause-list
returns-clause-list c =
    let q = c.args.plan.now.q in
    c.loop-i.invariant.so_far ∙ take_all c.loop-i.i (row_differences q c.args.plan.now.rows)
    (omega (arith, differences_len q (is_order-field q c.field-field.ensures.valid.order) c.args.plan.now.rows))

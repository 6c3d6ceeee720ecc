use Rattle.std.proofs.Common.{rules, ℕ, ◌≡◌, ◌<◌, ◌++◌, ◌∷◌, [], ◌∙◌, true, false, List, length}
use Rattle.std.proofs.Common.{Option, Some, None, refl, ap, arith, replicate}
use Rattle.std.proofs.lemmas.List.{get_or_read}
use Rattle.fx_designs.specs.Vectors.{zeros}
use Rattle.fx_laws.proofs.Tables.{is_order-field}
use Rattle.fx_judge.specs.Bases.{column}
use Rattle.fx_judge.specs.Rules.{basic_among, combination_for}
use Rattle.fx_judge.proofs.Passing.{plan_zeros, column_fits, on_none, none_found, some_none, off_positive}
use Rattle.fx_judge.proofs.Passing.{direction_fits, direction_long, rows_fit, on_some}
use Rattle.fx_judge.proofs.Stepping.{mark_more, starts, rule_more, no_rule}
use Rattle.fx_judge.proofs.regular.eliminate.Goals as goal
use Rattle.fx_judge.proofs.regular.eliminate.Goals.{in-None+in_ok-push-in-None, in-Some+in_ok-rows-in-Some}

pub loop-i-init : goal.loop-i-init
loop-i-init c =
    record {
      stage =
          rw (c.in_ok-rows.ensures ∙ ap (λ l. replicate (length l) (zeros (length l)))
          c.names-s.ensures.names)
          (starts c.args.plan.now.q (is_order-field c.args.plan.now.q c.names-s.ensures.valid.order)
          (length c.args.plan.now.names) c.in_ok-differences.differences
          (plan_zeros c.args.plan.now c.names-s.ensures.valid c.in_ok-differences.differences
          c.in_ok-differences.ensures.list));
      basic = search rules;
      found = c.new-found.ensures;
    }

pub exception-requires-clause-vector : goal.exception-requires-clause-vector
exception-requires-clause-vector c =
    column_fits c.args.plan.now.q (is_order-field c.args.plan.now.q c.names-s.ensures.valid.order) _
    c.in_ok-differences.differences c.loop-i.rows
    c.loop-i.i c.in_ok-differences.ensures.each c.loop-i.invariant.stage
    (omega (arith, ap length c.names-s.ensures.names))
    (plan_zeros c.args.plan.now c.names-s.ensures.valid c.in_ok-differences.differences
    c.in_ok-differences.ensures.list)
    c.field.result c.column-u.result c.field.ensures.field c.column-u.ensures

pub rule_by-requires-clause-vector : goal.rule_by-requires-clause-vector
rule_by-requires-clause-vector c =
    column_fits c.args.plan.now.q (is_order-field c.args.plan.now.q c.names-s.ensures.valid.order) _
    c.in_ok-differences.differences c.loop-i.rows
    c.loop-i.i c.in_ok-differences.ensures.each c.loop-i.invariant.stage
    (omega (arith, ap length c.names-s.ensures.names))
    (plan_zeros c.args.plan.now c.names-s.ensures.valid c.in_ok-differences.differences
    c.in_ok-differences.ensures.list)
    c.field-in-None.result c.column-u.result c.field-in-None.ensures.field c.column-u.ensures

pub direction-e-requires-clause-off : goal.direction-e-requires-clause-off
direction-e-requires-clause-off c =
    off_positive c.args.plan.now.q (is_order-field c.args.plan.now.q c.names-s.ensures.valid.order) _
    c.in_ok-differences.differences c.loop-i.rows
    c.loop-i.i
    c.in_ok-differences.ensures.each c.loop-i.invariant.stage (omega (arith, ap length c.names-s.ensures.names))
    (plan_zeros c.args.plan.now c.names-s.ensures.valid c.in_ok-differences.differences
    c.in_ok-differences.ensures.list)
    c.field.result c.column-u.result c.field.ensures.field c.column-u.ensures c.in-Some.k c.in-Some.ensures
    c.field-in-Some.result c.get.result.now c.field-in-Some.ensures.field
    (get_or_read c.in_ok-differences.differences c.in-Some.k c.get.result.now c.in-Some.ensures.there c.get.ensures [])

pub grown-requires-clause-vector : goal.grown-requires-clause-vector
grown-requires-clause-vector c =
    direction_fits c.args.plan.now.q (is_order-field c.args.plan.now.q c.names-s.ensures.valid.order) _
    c.in_ok-differences.differences c.loop-i.rows
    c.loop-i.i
    c.in_ok-differences.ensures.each c.loop-i.invariant.stage (omega (arith, ap length c.names-s.ensures.names))
    (plan_zeros c.args.plan.now c.names-s.ensures.valid c.in_ok-differences.differences
    c.in_ok-differences.ensures.list)
    c.field.result c.column-u.result c.field.ensures.field c.column-u.ensures c.in-Some.k c.in-Some.ensures
    c.field-in-Some.result c.get.result.now c.field-in-Some.ensures.field
    (get_or_read c.in_ok-differences.differences c.in-Some.k c.get.result.now c.in-Some.ensures.there c.get.ensures [])
    c.direction-e.result c.direction-e.ensures c.field-in-Some-2.result c.field-in-Some-2.ensures.field

pub grown-requires-clause-each : goal.grown-requires-clause-each
grown-requires-clause-each c =
    rows_fit c.args.plan.now.q (is_order-field c.args.plan.now.q c.names-s.ensures.valid.order) _
    c.in_ok-differences.differences c.loop-i.rows
    c.loop-i.i
    c.in_ok-differences.ensures.each c.loop-i.invariant.stage (omega (arith, ap length c.names-s.ensures.names))
    (plan_zeros c.args.plan.now c.names-s.ensures.valid c.in_ok-differences.differences
    c.in_ok-differences.ensures.list)
    c.field.result c.column-u.result c.field.ensures.field c.column-u.ensures c.in-Some.k c.in-Some.ensures
    c.field-in-Some.result c.get.result.now c.field-in-Some.ensures.field
    (get_or_read c.in_ok-differences.differences c.in-Some.k c.get.result.now c.in-Some.ensures.there c.get.ensures [])
    c.direction-e.result c.direction-e.ensures c.field-in-Some-2.result c.field-in-Some-2.ensures.field

pub grown-requires-clause-there : goal.grown-requires-clause-there
grown-requires-clause-there c =
    let f = is_order-field c.args.plan.now.q c.names-s.ensures.valid.order in
    let z = plan_zeros c.args.plan.now c.names-s.ensures.valid c.in_ok-differences.differences
    c.in_ok-differences.ensures.list in
    let low : c.loop-i.i < length c.args.plan.now.names =
    omega (arith, ap length c.names-s.ensures.names) in
    let D = c.in_ok-differences.differences in
    let d = get_or_read D c.in-Some.k c.get.result.now c.in-Some.ensures.there c.get.ensures [] in
    let long =
    direction_long c.args.plan.now.q f (length c.args.plan.now.names) D c.loop-i.rows c.loop-i.i
    c.in_ok-differences.ensures.each c.loop-i.invariant.stage low z
    c.field.result c.column-u.result c.field.ensures.field c.column-u.ensures c.in-Some.k c.in-Some.ensures
    c.field-in-Some.result c.get.result.now c.field-in-Some.ensures.field d
    c.direction-e.result c.direction-e.ensures in
    omega arith

pub loop-i-preserved : goal.loop-i-preserved
loop-i-preserved c =
    let f = is_order-field c.args.plan.now.q c.names-s.ensures.valid.order in
    let z = plan_zeros c.args.plan.now c.names-s.ensures.valid c.in_ok-differences.differences
    c.in_ok-differences.ensures.list in
    let low : c.loop-i.i < length c.args.plan.now.names =
    omega (arith, ap length c.names-s.ensures.names) in
    let q = c.args.plan.now.q in
    let s = length c.args.plan.now.names in
    let plan = c.args.plan.now.rows in
    let D = c.in_ok-differences.differences in
    let i = c.loop-i.i in
    let rows = c.loop-i.rows in
    let hd = c.in_ok-differences.ensures.each in
    let stage = c.loop-i.invariant.stage in
    let told = λ (o : Option (List ℕ)) (e : combination_for q s D (basic_among q s D i) i ≡ o).
    (rw c.in_ok-differences.ensures.list at e)
    in
    elim c.match-exception.branch [
      | in-None+in_ok-push-in-None w ↦
          let pushed-false : c.match-exception.basic.items ≡ c.loop-i.basic.items ++ false ∷ [] = search rules in
          record {
            stage = on_none q f s D rows i hd stage low z c.field.result c.column-u.result c.field.ensures.field
                c.column-u.ensures c.match-exception.rows w.in-None.ensures w.rows-is;
            basic =
                cc (
                  c.loop-i.invariant.basic,
                  mark_more q s D i false _
                      (none_found q f s D rows i hd stage low z c.field.result c.column-u.result c.field.ensures.field
                      c.column-u.ensures w.in-None.ensures) refl,
                );
            found =
                cc (
                  w.found-is,
                  w.in_ok-push-in-None.ensures.ok,
                  c.loop-i.invariant.found,
                  rule_more q s plan i _ w.rule_by.result (omega arith)
                      (told (Some (column i rows))
                      (none_found q f s D rows i hd stage low z c.field.result c.column-u.result c.field.ensures.field
                      c.column-u.ensures w.in-None.ensures))
                      (cc (w.rule_by.ensures, w.field-in-None.ensures.field, c.column-u.ensures, w.row.ensures.row)),
                );
          }
      | in-Some+in_ok-rows-in-Some w ↦
          let pushed-true : c.match-exception.basic.items ≡ c.loop-i.basic.items ++ true ∷ [] = search rules in
          record {
            stage = on_some q f s D rows i hd stage low z c.field.result c.column-u.result c.field.ensures.field
                c.column-u.ensures w.in-Some.k w.in-Some.ensures
                w.field-in-Some.result w.get.result.now w.field-in-Some.ensures.field
                (get_or_read D w.in-Some.k w.get.result.now w.in-Some.ensures.there w.get.ensures [])
                w.direction-e.result
                w.direction-e.ensures
                w.field-in-Some-2.result c.match-exception.rows w.field-in-Some-2.ensures.field
                (w.rows-is ∙ w.in_ok-rows-in-Some.ensures);
            basic =
                cc (
                  c.loop-i.invariant.basic,
                  mark_more q s D i true None
                      (some_none q f s D rows i hd stage low z c.field.result c.column-u.result c.field.ensures.field
                      c.column-u.ensures w.in-Some.k w.in-Some.ensures) refl,
                );
            found =
                cc (
                  c.loop-i.invariant.found,
                  no_rule q s plan i
                      (told None
                      (some_none q f s D rows i hd stage low z c.field.result c.column-u.result c.field.ensures.field
                      c.column-u.ensures w.in-Some.k w.in-Some.ensures)),
                );
          }
    ]

pub push-requires-in-None : goal.push-requires-in-None
push-requires-in-None c =
    let long : length c.loop-i.basic.items ≡ c.loop-i.i =
    cc (c.loop-i.invariant.basic, c.loop-i.invariant.stage.basics, c.loop-i.invariant.stage.marks) in
    let few = c.names-s.ensures.valid.factors in
    let low : c.loop-i.i < length c.args.plan.now.names =
    omega (arith, ap length c.names-s.ensures.names) in
    omega arith

pub push-requires-in-Some : goal.push-requires-in-Some
push-requires-in-Some c =
    let long : length c.loop-i.basic.items ≡ c.loop-i.i =
    cc (c.loop-i.invariant.basic, c.loop-i.invariant.stage.basics, c.loop-i.invariant.stage.marks) in
    let few = c.names-s.ensures.valid.factors in
    let low : c.loop-i.i < length c.args.plan.now.names =
    omega (arith, ap length c.names-s.ensures.names) in
    omega arith

pub returns-clause-basic : goal.returns-clause-basic
returns-clause-basic c =
    let q = c.args.plan.now.q in
    let s = length c.args.plan.now.names in
    let end : c.loop-i.i ≡ s = omega (arith, ap length c.names-s.ensures.names) in
    cc (c.loop-i.invariant.basic, c.in_ok-differences.ensures.list)

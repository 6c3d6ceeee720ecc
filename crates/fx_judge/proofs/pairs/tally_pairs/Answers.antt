use Rattle.std.proofs.Common.{ℕ, ◌≡◌, ◌<◌, ◌+◌, ◌*◌, List, length, map, get_or, [], arith}
use Rattle.std.proofs.lemmas.List.{length-map}
use Rattle.fx_designs.specs.Vectors.{dot}
use Rattle.fx_laws.proofs.Linear.{dot_code}
use Rattle.fx_laws.proofs.Tables.{is_order-field}
use Rattle.fx_vectors.proofs.Limits.{order-bounds}
use Rattle.fx_judge.proofs.Columns.{column_code, column_value}
use Rattle.fx_judge.proofs.Counts.{counted_more, counted_none, value_at}
use Rattle.fx_judge.proofs.pairs.tally_pairs.Goals as goal

pub loop-i-init : goal.loop-i-init
loop-i-init c = counted_none 81

pub bounds-pairs-from : goal.bounds-pairs-from
bounds-pairs-from c =
    let plan = c.args.plan.now in
    let low : c.loop-i.i < length plan.rows = omega arith in
    let a = column_code plan c.len-i-end.ensures.valid c.args.u.now c.requires.first c.loop-i.i low in
    let b = column_code plan c.len-i-end.ensures.valid c.args.v.now c.requires.second c.loop-i.i low in
    let ea : c.from.result ≡ get_or c.args.u.now.values c.loop-i.i 0 =
    cc (c.from.ensures, c.as_slice-us.ensures) in
    let eb : c.from-in-loop-i.result ≡ get_or c.args.v.now.values c.loop-i.i 0 =
    cc (c.from-in-loop-i.ensures, c.as_slice-vs.ensures) in
    omega arith

pub bounds-pairs-from-in-loop-i : goal.bounds-pairs-from-in-loop-i
bounds-pairs-from-in-loop-i c =
    let plan = c.args.plan.now in
    let low : c.loop-i.i < length plan.rows = omega arith in
    let a = column_code plan c.len-i-end.ensures.valid c.args.u.now c.requires.first c.loop-i.i low in
    let b = column_code plan c.len-i-end.ensures.valid c.args.v.now c.requires.second c.loop-i.i low in
    let ea : c.from.result ≡ get_or c.args.u.now.values c.loop-i.i 0 =
    cc (c.from.ensures, c.as_slice-us.ensures) in
    let eb : c.from-in-loop-i.result ≡ get_or c.args.v.now.values c.loop-i.i 0 =
    cc (c.from-in-loop-i.ensures, c.as_slice-vs.ensures) in
    omega arith

pub loop-i-preserved : goal.loop-i-preserved
loop-i-preserved c =
    let q = c.args.plan.now.q in
    let rows = c.args.plan.now.rows in
    let low : c.loop-i.i < length rows = omega arith in
    let both : List ℕ → ℕ = λ x. 9 * dot q c.args.u.now.component x + dot q c.args.v.now.component x in
    let a : c.from.result ≡ dot q c.args.u.now.component (get_or rows c.loop-i.i []) =
    cc (
      c.from.ensures,
      c.as_slice-us.ensures,
      column_value c.args.plan.now c.args.u.now c.requires.first c.loop-i.i
          low,
    ) in
    let b : c.from-in-loop-i.result ≡ dot q c.args.v.now.component (get_or rows c.loop-i.i []) =
    cc (
      c.from-in-loop-i.ensures,
      c.as_slice-vs.ensures,
      column_value c.args.plan.now c.args.v.now c.requires.second
          c.loop-i.i low,
    ) in
    let nine = (order-bounds q c.len-i-end.ensures.valid.order).1 in
    let f = is_order-field q c.len-i-end.ensures.valid.order in
    counted_more 81 (map both rows) c.loop-i.pairs c.loop-i.i _
    (rw (length-map rows both) low) (cc (value_at both rows c.loop-i.i [] low))
    (omega (
      arith,
      dot_code q f c.args.u.now.component (get_or rows c.loop-i.i []),
      dot_code q f
          c.args.v.now.component (get_or rows c.loop-i.i []),
    ))
    c.loop-i.invariant

use Rattle.std.proofs.Common.{ℕ, ◌≡◌, ◌<◌, ◌+◌, ◌*◌, List, length, map, get_or, [], arith}
use Rattle.std.proofs.lemmas.List.{length-map}
use Rattle.fx_designs.specs.Vectors.{dot}
use Rattle.fx_vectors.proofs.Limits.{order-bounds}
use Rattle.fx_judge.proofs.Counts.{counted_more, counted_none, value_at}
use Rattle.fx_judge.proofs.tally.pairs_of.Goals as goal

pub loop-i-init : goal.loop-i-init
loop-i-init c = counted_none 81

pub loop-i-preserved : goal.loop-i-preserved
loop-i-preserved c =
    let q = c.args.plan.now.q in
    let rows = c.args.plan.now.rows in
    let f : List ℕ → ℕ = λ x. 9 * dot q c.args.u.now x + dot q c.args.v.now x in
    let nine = (order-bounds q c.len-i-end.ensures.valid.order).1 in
    let there : c.loop-i.i < length rows = omega arith in
    let a : c.from-a.result ≡ dot q c.args.u.now (get_or rows c.loop-i.i []) =
    cc (c.from-a.ensures, c.dot.ensures.product, c.field-field.ensures.field, c.row.ensures.row) in
    let b : c.from-b.result ≡ dot q c.args.v.now (get_or rows c.loop-i.i []) =
    cc (c.from-b.ensures, c.dot-in-loop-i.ensures.product, c.field-field.ensures.field, c.row-in-loop-i.ensures.row) in
    counted_more 81 (map f rows) c.loop-i.pairs c.loop-i.i _
    (rw (length-map rows f) there) (cc (value_at f rows c.loop-i.i [] there))
    (omega arith) c.loop-i.invariant

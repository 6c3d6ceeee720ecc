use Rattle.std.proofs.Common.{◌≡◌, ◌+◌, map, drop, suc, arith}
use Rattle.fx_components.specs.Products.{terms}
use Rattle.fx_components.proofs.Products.{next_entry}
use Rattle.fx_components.proofs.product.put_product.Goals as goal

pub loop-i-preserved : goal.loop-i-preserved
loop-i-preserved c =
    let names = map (λ n. n.now) c.args.names.now in
    let one : c.loop-i.i + 1 ≡ suc c.loop-i.i = omega arith in
    let next =
    next_entry (λ n. n.now) c.args.names.now c.index-names-i.result c.args.u.now c.loop-i.i c.loop-i-test.true
    (omega arith) in
    let step =
    rw (c.index-names-i.is, c.code.ensures) at
    (c.in_ok-is_first.ensures (terms (drop (suc c.loop-i.i) names) (drop (suc c.loop-i.i) c.args.u.now))) in
    cc c.loop-i.invariant

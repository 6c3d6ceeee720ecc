use Rattle.std.proofs.Common.{◌≡◌, ◌≤◌, ◌^◌, arith}
use Rattle.std.proofs.Math.Nat.{pow-le-pow_right}
use Rattle.fx_vectors.proofs.Limits.{order-bounds}
use Rattle.fx_alias.proofs.rules.is_next_unit.Goals as goal

pub pow-requires : goal.pow-requires
pow-requires c =
    let shape = c.args.shape in
    let two = (order-bounds shape.q c.requires.shaped.order).0 in
    let low : shape.q ^ c.args.count ≤ shape.q ^ shape.m = pow-le-pow_right (omega arith) c.requires.count in
    let runs = c.requires.shaped.runs in
    let q : c.from-2.result ≡ shape.q = c.from-2.ensures in
    rw q (omega arith)

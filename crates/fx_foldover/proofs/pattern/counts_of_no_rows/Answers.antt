use Rattle.std.proofs.Common.{◌≡◌, ◌+◌, ◌*◌, ◌^◌, arith}
use Rattle.std.proofs.Math.Nat.{one-le-pow}
use Rattle.fx_foldover.proofs.Additions.{start}
use Rattle.fx_foldover.proofs.pattern.counts_of_no_rows.Goals as goal

pub returns : goal.returns
returns c =
    let n = c.args.shape.m + 1 in
    let s = c.args.shape.s in
    let len = (c.from.result + 1) * c.point_count.result in
    let count : len ≡ (s + 1) * 2 ^ n =
    cc (c.from.ensures, c.point_count.ensures.count) in
    let some = one-le-pow n 2 (omega arith) in
    rw (c.in-Ok.ensures.items_if_clones_equal (λ y h. h)) (start n s len count (omega arith))

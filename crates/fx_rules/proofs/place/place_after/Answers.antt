use Rattle.std.proofs.Common.{◌≤◌, arith}
use Rattle.fx_lexer.proofs.NextPlace.{line_small, column_small}
use Rattle.fx_rules.proofs.place.place_after.Goals as goal

pub next_place-place-requires : goal.next_place-place-requires
next_place-place-requires c =
    let short : c.loop-i.i ≤ 1048576 = omega arith in
    rw c.loop-i.invariant (
      omega (arith, line_small c.args.bytes.now c.loop-i.i (omega arith)),
      omega (arith, column_small c.args.bytes.now c.loop-i.i (omega arith)),
    )

use Rattle.std.proofs.Common.{◌≤◌, ap, arith}
use Rattle.fx_lexer.proofs.NextPlace.{line_small, column_small}
use Rattle.fx_lexer.proofs.place.place_at.Goals as goal

pub next_place-place-requires : goal.next_place-place-requires
next_place-place-requires c =
    let l = ap (λ p. p.line) c.loop-i.invariant in
    let k = ap (λ p. p.column) c.loop-i.invariant in
    let short : c.loop-i.i ≤ 1048576 = omega arith in
    rw c.loop-i.invariant (
      omega (arith, line_small c.args.text.now c.loop-i.i (omega arith)),
      omega
          (arith, column_small c.args.text.now c.loop-i.i (omega arith)),
    )

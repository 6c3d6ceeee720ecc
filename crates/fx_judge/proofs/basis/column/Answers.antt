use Rattle.std.proofs.Common.{◌<◌, ◌∷◌, [], length, take, get_or}
use Rattle.std.proofs.Common.{arith}
use Rattle.std.proofs.Math.ListN.{length-set}
use Rattle.std.proofs.lemmas.List.{map-append, take_more, take_more_set, take_all, get_or_read}
use Rattle.fx_judge.proofs.basis.column.Goals as goal

pub loop-k-preserved : goal.loop-k-preserved
loop-k-preserved c =
    let rows = c.args.rows.now in
    let low : c.loop-k.k < length rows = omega arith in
    let row = get_or_read rows c.loop-k.k c.get.result.now low c.get.ensures [] in
    record {
      len = cc (c.set.ensures.codes, length-set c.loop-k.column c.loop-k.k c.code.result, c.loop-k.invariant.len);
      so_far =
          cc (
            c.set.ensures.codes,
            take_more_set c.loop-k.column c.loop-k.k c.code.result
                (omega arith),
            c.loop-k.invariant.so_far,
            c.code.ensures,
            take_more rows c.loop-k.k [] low,
            map-append (λ r. get_or r c.args.i 0) (take c.loop-k.k rows)
                (get_or rows c.loop-k.k [] ∷ []),
          );
    }

pub returns : goal.returns
returns c =
    cc (
      take_all c.loop-k.k c.loop-k.column (omega arith),
      c.loop-k.invariant.so_far,
      take_all c.loop-k.k c.args.rows.now (omega arith),
    )

use Rattle.std.proofs.Common.{[], length, arith}
use Rattle.std.proofs.lemmas.List.{get_or_read}
use Rattle.std.proofs.lemmas.List.Elements.{recursion_from_All}
use Rattle.fx_laws.proofs.Tables.{is_order-field}
use Rattle.fx_laws.proofs.Space.{combination-vector}
use Rattle.fx_judge.proofs.Stepping.{combination_more, combination_end, combination_begins}
use Rattle.fx_judge.proofs.basis.combination.Goals as goal

pub loop-k-init : goal.loop-k-init
loop-k-init c =
    let q = c.args.field in
    let m = length c.args.u.now in
    let f = is_order-field q c.q-known.ensures.known in
    record {
      vector = rw c.len.ensures.count at (c.zero-sum.ensures.vector q (omega arith));
      so_far =
          cc (
            c.zero-sum.ensures.zeros,
            combination_begins q f m _
                (combination-vector q m f c.args.u.now c.args.rows.now
                (recursion_from_All _ c.args.rows.now c.requires.each)),
          );
    }

pub loop-k-preserved : goal.loop-k-preserved
loop-k-preserved c =
    record {
      vector = rw c.loop-k.invariant.vector.len at c.add_scaled.ensures.vector;
      so_far =
          cc (
            c.add_scaled.ensures.sum,
            combination_more c.args.field (is_order-field c.args.field c.q-known.ensures.known) (length c.args.u.now)
                c.args.u.now
                c.args.rows.now c.loop-k.k c.code.result c.get.result.now c.loop-k.sum (omega arith)
                (omega arith) c.code.ensures
                (get_or_read c.args.rows.now c.loop-k.k c.get.result.now (omega arith) c.get.ensures []),
            c.loop-k.invariant.so_far,
          );
    }

pub returns-clause-sum : goal.returns-clause-sum
returns-clause-sum c =
    cc (
      combination_end c.args.field (is_order-field c.args.field c.q-known.ensures.known) _ c.args.u.now c.args.rows.now
          c.loop-k.k
          c.loop-k.sum (omega arith)
          c.loop-k.invariant.vector,
      c.loop-k.invariant.so_far,
    )

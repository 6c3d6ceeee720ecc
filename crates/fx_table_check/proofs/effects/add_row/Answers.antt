use Rattle.std.proofs.Common.{ℕ, ◌≡◌, ◌+◌, slice_index, ◌∙◌, arith}
use Rattle.fx_laws.proofs.Tables.{is_order-field}
use Rattle.fx_points.specs.Sums.{sum_of}
use Rattle.fx_words.specs.Tables.{difference}
use Rattle.fx_words.proofs.Opposites.{differs, difference_below}
use Rattle.fx_words.proofs.Levels.{so_far-all}
use Rattle.fx_table_check.proofs.UpToTwo.{moved-count}
use Rattle.fx_table_check.proofs.effects.add_row.Goals as goal

pub loop-c-preserved : goal.loop-c-preserved
loop-c-preserved c =
    let q = c.args.sums.now.q in
    let m = c.args.sums.now.m in
    let f = is_order-field q c.q-c-end.ensures.known in
    let there : (y : ℕ) → sum_of q 1 m y c.minus.result ≡ difference q m y c.loop-c.c c.args.row = λ y.
    cc (c.minus.ensures.negative, c.times.ensures.multiple, differs q m f y c.loop-c.c c.args.row) in
    record {
      few = c.add_moved.ensures.few;
      code = omega arith;
      counted = λ rows k light before y low.
          c.add_moved.ensures.added y low
          ∙ moved-count q m rows c.args.row k c.loop-c.c y _
          (slice_index c.args.lighter.now (sum_of q 1 m y c.minus.result)) (omega arith)
          (c.loop-c.invariant.counted rows k light before y low)
          (cc (
            there y,
            light (difference q m y c.loop-c.c c.args.row)
                (difference_below q m f y c.loop-c.c c.args.row),
          ));
    }

pub returns-clause-counted : goal.returns-clause-counted
returns-clause-counted c = λ rows k light before x low.
    let q = c.args.sums.now.q in
    let last : c.loop-c.c ≡ q = omega arith in
    cc (
      c.loop-c.invariant.counted rows k light before x low,
      so_far-all q c.args.sums.now.m
          (is_order-field q c.q-c-end.ensures.known) rows c.args.row (k + 1) x low,
    )

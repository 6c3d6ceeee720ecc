use Rattle.std.proofs.Common.{◌≡◌, ◌+◌, ◌-◌, ◌*◌, ◌^◌, ◌++◌, ◌∷◌, [], ◌∙◌, length, take}
use Rattle.std.proofs.Common.{ap, arith}
use Rattle.std.proofs.lemmas.List.{length-take-le}
use Rattle.fx_vectors.proofs.Limits.{words_fit}
use Rattle.fx_foldover.specs.Foldovers.{combined_rows}
use Rattle.fx_foldover.proofs.Additions.{begin, add, added, both-left, sum-fits}
use Rattle.fx_foldover.proofs.CombinedWords.{length-combined_rows, rows-more}
use Rattle.fx_foldover.proofs.pattern.add_row.Goals as goal
use Rattle.fx_foldover.proofs.pattern.add_row.Goals.{After-combined_row-row}

points_are : (c : After-combined_row-row) → c.point_count-points.result ≡ 2 ^ (c.args.matrix.now.shape.m + 1)
points_are c = cc (c.point_count-points.ensures.count, c.shape.ensures.shape)

pub overflow_add-counts-in-loop-place : goal.overflow_add-counts-in-loop-place
overflow_add-counts-in-loop-place c =
    let points = points_are (goal.at.overflow_add-counts-in-loop-place c).After-combined_row-row in
    let shape = c.args.matrix.now.shape in
    let p = c.loop-place.place - 1 in
    let all = combined_rows c.args.fold.now c.args.matrix.now.rows in
    let count = length-combined_rows c.args.fold.now c.args.matrix.now.rows c.requires.fold in
    let rows = take c.args.i all in
    let few =
    rw c.requires.levels at
    (words_fit shape c.shape.ensures.valid.shaped (length rows + 1)
    (omega (arith, length-take-le c.args.i all (omega arith)))) in
    let left = both-left _ c.combined_row-row.result c.point_count-points.result c.loop-place.place p c.args.counts.now
    c.loop-place.counts points c.combined_row-row.ensures.below (omega arith) (omega arith) c.loop-place.invariant.added
    in
    let fits =
    sum-fits _ shape.s rows c.combined_row-row.result c.point_count-points.result p c.args.counts.now points
    c.combined_row-row.ensures.below
    (omega arith) (omega arith) few c.requires.counts in
    omega arith

pub loop-place-preserved : goal.loop-place-preserved
loop-place-preserved c =
    let points_of = c.point_count-points.result in
    let p = c.loop-place.place - 1 in
    let row = c.combined_row-row.result in
    let before = c.args.counts.now in
    let next : c.loop-place.place ≡ p + 1 = omega arith in
    let left =
    both-left (c.args.matrix.now.shape.m + 1) row points_of c.loop-place.place p before c.loop-place.counts
    (points_are (goal.at.loop-place-preserved c).After-combined_row-row)
    c.combined_row-row.ensures.below (omega arith) next c.loop-place.invariant.added in
    record {
      from = omega arith;
      added = add points_of row p before c.loop-place.counts _
          (rw next at c.loop-place.invariant.added)
          (omega arith) left;
    }

pub returns : goal.returns
returns c =
    let n = c.args.matrix.now.shape.m + 1 in
    let all = combined_rows c.args.fold.now c.args.matrix.now.rows in
    let more =
    ap (λ r. take c.args.i all ++ r ∷ []) c.combined_row-row.ensures.row
    ∙ rows-more c.args.fold.now c.args.matrix.now.rows c.args.i c.requires.fold c.requires.row in
    rw more at
    (added n c.args.matrix.now.shape.s _ c.combined_row-row.result c.point_count-points.result c.loop-place.place
    c.args.counts.now c.loop-place.counts
    (points_are (goal.at.returns c).After-combined_row-row) c.combined_row-row.ensures.below (omega arith)
    c.loop-place.invariant.from c.requires.counts
    c.loop-place.invariant.added)

pub loop-place-init : goal.loop-place-init
loop-place-init c =
    let points = points_are (goal.at.loop-place-init c).After-combined_row-row in
    let s = c.args.matrix.now.shape.s in
    let points_of = c.point_count-points.result in
    let whole : length c.args.counts.now ≡ (s + 1) * points_of =
    cc (c.requires.counts.len, points) in
    let least = c.shape.ensures.valid.shaped.some_factors in
    record {
      from = omega arith;
      added = begin points_of c.combined_row-row.result _ c.args.counts.now (omega arith);
    }

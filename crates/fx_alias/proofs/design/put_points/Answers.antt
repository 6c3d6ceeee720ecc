use Rattle.std.proofs.Common.{◌∷◌, [], append_assoc, append-nil}
use Rattle.std.specs.List.{flat_map, range_with_len}
use Rattle.std.proofs.lemmas.Grind.{flat_map-append}
use Rattle.fx_runs.proofs.Grouping.{next_place}
use Rattle.fx_alias.specs.Points.{point_line}
use Rattle.fx_alias.proofs.design.put_points.Goals as goal

pub loop-k-preserved : goal.loop-k-preserved
loop-k-preserved c =
    let line = point_line c.args.runs.now in
    let done = range_with_len 0 c.loop-k.k in
    cc (
      c.in_ok-put_point.ensures,
      c.loop-k.invariant,
      append_assoc c.args.out.now (flat_map line done)
          (line c.loop-k.k),
      append-nil (line c.loop-k.k),
      flat_map-append line done (c.loop-k.k ∷ []),
      next_place
          c.loop-k.k,
    )

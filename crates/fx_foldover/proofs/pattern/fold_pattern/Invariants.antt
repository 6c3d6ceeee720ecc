use Rattle.std.proofs.Common.{◌+◌, take}
use Rattle.fx_foldover.specs.Counts.{AreCounts}
use Rattle.fx_foldover.specs.Foldovers.{combined_rows}
use Rattle.fx_foldover.proofs.pattern.fold_pattern.Given as goal

abbrev pub invariant-loop-i : goal.invariant-loop-i
invariant-loop-i l =
    AreCounts (l.matrix.shape.m + 1) l.matrix.shape.s (take l.i (combined_rows l.fold l.matrix.rows)) l.counts.items

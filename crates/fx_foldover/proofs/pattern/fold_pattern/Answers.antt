use Rattle.std.proofs.Common.{◌+◌, arith}
use Rattle.std.proofs.lemmas.List.{take_all}
use Rattle.fx_foldover.specs.Foldovers.{combined_rows}
use Rattle.fx_foldover.proofs.CombinedWords.{length-combined_rows}
use Rattle.fx_foldover.proofs.pattern.fold_pattern.Goals as goal

pub pattern_of_counts-requires-clause-counts : goal.pattern_of_counts-requires-clause-counts
pattern_of_counts-requires-clause-counts c =
    let n = c.args.matrix.now.shape.m + 1 in
    let all = combined_rows c.args.fold.now c.args.matrix.now.rows in
    let count = length-combined_rows c.args.fold.now c.args.matrix.now.rows
    (cc (c.requires.fold, c.requires.complete)) in
    rw c.as_slice.ensures.value (rw (take_all c.loop-i.i all (omega arith)) at c.loop-i.invariant)

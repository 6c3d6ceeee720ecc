use Rattle.std.proofs.Common.{◌≡◌, take}
use Rattle.fx_designs.specs.Vectors.{vectors_of}
use Rattle.fx_foldover.specs.Foldovers.{combined_pattern}
use Rattle.fx_foldover.proofs.pattern.pattern_of_counts.Given as goal

abbrev pub invariant-loop-i : goal.invariant-loop-i
invariant-loop-i l =
    l.pattern ≡ take l.i (combined_pattern l.matrix.shape.m l.fold (vectors_of 2 l.matrix.shape.m l.matrix.rows))

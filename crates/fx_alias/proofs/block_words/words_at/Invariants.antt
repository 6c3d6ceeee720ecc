use Rattle.std.proofs.Common.{◌≡◌, ◌+◌, take}
use Rattle.fx_designs.specs.Vectors.{vectors_of}
use Rattle.fx_points.specs.Points.{has}
use Rattle.fx_alias.proofs.Counted.{words_below}
use Rattle.fx_alias.proofs.block_words.words_at.Given as goal

abbrev pub invariant-loop-x : goal.invariant-loop-x
invariant-loop-x l = record {
  count : l.count
      ≡ words_below l.matrix.shape.q l.matrix.shape.m
      (vectors_of l.matrix.shape.q l.matrix.shape.m (take l.matrix.shape.s l.matrix.rows)) (has l.span) (l.i + 1) l.x;
  same : l.tally ≡ l.fn.tally;
}

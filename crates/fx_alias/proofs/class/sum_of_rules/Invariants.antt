use Rattle.std.proofs.Common.{◌≡◌, drop}
use Rattle.fx_designs.specs.Vectors.{IsVector, plus, combination, vectors_of}
use Rattle.fx_alias.proofs.class.sum_of_rules.Given as goal

abbrev pub invariant-loop-i : goal.invariant-loop-i
invariant-loop-i l = record {
  vector : IsVector l.field l.m l.sum;
  so_far :
      plus l.field l.sum
      (combination l.field l.m (drop l.i l.u) (vectors_of l.field l.m (drop l.i (drop l.first l.matrix.rows))))
      ≡ combination l.field l.m l.u (vectors_of l.field l.m (drop l.first l.matrix.rows));
}

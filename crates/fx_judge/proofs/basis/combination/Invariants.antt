use Rattle.std.proofs.Common.{◌≡◌, length, drop}
use Rattle.fx_designs.specs.Vectors.{IsVector, combination, plus}
use Rattle.fx_judge.proofs.basis.combination.Given as goal

abbrev pub invariant-loop-k : goal.invariant-loop-k
invariant-loop-k l = record {
  vector : IsVector l.field (length l.u) l.sum;
  so_far : plus l.field l.sum (combination l.field (length l.u) (drop l.k l.u) (drop l.k l.rows))
      ≡ combination l.field (length l.u) l.u l.rows;
}

use Rattle.std.proofs.Common.{◌≡◌, ◌++◌, ◌-◌, replicate}
use Rattle.fx_designs.specs.Vectors.{IsVector, zeros}
use Rattle.fx_statements.proofs.fold.all_folded.Given as goal

abbrev pub invariant-loop-i : goal.invariant-loop-i
invariant-loop-i l = (l.codes ≡ replicate l.i 1 ++ zeros (l.s - l.i)) × IsVector 2 l.s l.codes

use Rattle.std.proofs.Common.{◌<◌}
use Rattle.fx_barred.proofs.next_vectors.slot_of.Given as goal

abbrev pub invariant-loop-x : goal.invariant-loop-x
invariant-loop-x l = l.slot < 4096

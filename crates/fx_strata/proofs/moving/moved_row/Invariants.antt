use Rattle.fx_strata.proofs.Entries.{IsImageTo}
use Rattle.fx_strata.proofs.moving.moved_row.Given as goal

abbrev pub invariant-loop-i : goal.invariant-loop-i
invariant-loop-i l = IsImageTo l.field l.m l.change l.vector l.image l.i

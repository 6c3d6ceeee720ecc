use Rattle.fx_derived.proofs.Cutting.{none, are_none}
use Rattle.fx_derived.proofs.pieces.Pieces.new.Goals as goal

pub returns : goal.returns
returns c = rw (c.new.ensures.items, c.new-2.ensures.items) none

pub invariant_of-result : goal.invariant_of-result
invariant_of-result c = rw (c.new.ensures.items, c.new-2.ensures.items) are_none

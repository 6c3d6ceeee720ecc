use Rattle.fx_alias.specs.BlockSpans.{HasSums}
use Rattle.fx_alias.proofs.block_span.block_span.Given as goal

abbrev pub invariant-loop-place : goal.invariant-loop-place
invariant-loop-place l = HasSums l.matrix l.span l.place

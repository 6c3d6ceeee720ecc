use Rattle.fx_statements.proofs.Folded.{one_folded}
use Rattle.std.proofs.Common.{arith}
use Rattle.fx_statements.proofs.fold.all_folded.Goals as goal

pub loop-i-preserved : goal.loop-i-preserved
loop-i-preserved c = (
  cc (c.set.ensures.codes, c.loop-i.invariant.0, one_folded c.loop-i.i c.args.s c.loop-i-test.true),
  c.set.ensures.vector 2 c.args.s c.loop-i.invariant.1 (omega arith),
)

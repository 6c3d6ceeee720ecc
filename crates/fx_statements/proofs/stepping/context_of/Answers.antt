use Rattle.fx_statements.proofs.Bounds.{few_blocks}
use Rattle.fx_statements.proofs.stepping.context_of.Goals as goal

pub block_count-requires : goal.block_count-requires
block_count-requires c = λ t is. few_blocks c.args.settings c.requires.valid t is

use Rattle.fx_runs.proofs.Steps.{blocks_fit}
use Rattle.fx_alias.proofs.head.block_count.Goals as goal

pub pow-requires : goal.pow-requires
pow-requires c =
    rw (c.from.ensures, c.from-2.ensures) (blocks_fit c.args.shape c.requires)

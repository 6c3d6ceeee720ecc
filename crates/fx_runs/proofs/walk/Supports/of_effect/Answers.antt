use Rattle.fx_runs.proofs.Walks.{among-effect}
use Rattle.fx_runs.proofs.walk.Supports.of_effect.Goals as goal
use Rattle.fx_vectors.specs.declared.shape.TheConstants.{MOST_FACTORS}

pub returns : goal.returns
returns c = λ f h. among-effect c.args.e MOST_FACTORS f h

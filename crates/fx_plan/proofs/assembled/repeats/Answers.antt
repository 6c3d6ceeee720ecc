use Rattle.fx_plan.proofs.Parts.{no_columns}
use Rattle.fx_plan.proofs.assembled.repeats.Goals as goal

pub returns : goal.returns
returns c = cc (c.new.ensures, no_columns c.args.n)

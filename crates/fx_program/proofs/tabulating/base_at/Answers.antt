use Rattle.fx_program.proofs.TableLimits.{base_within}
use Rattle.fx_program.proofs.tabulating.base_at.Goals as goal

pub returns-clause-valid : goal.returns-clause-valid
returns-clause-valid c = base_within c.args.asked c.args.n c.requires.asked c.requires.line.0 c.requires.line.1

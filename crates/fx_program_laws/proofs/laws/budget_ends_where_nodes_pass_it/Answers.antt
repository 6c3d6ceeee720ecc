use Rattle.fx_program.proofs.None.{two_told, two_comes}
use Rattle.fx_program_laws.proofs.laws.budget_ends_where_nodes_pass_it.Goals as goal

pub returns : goal.returns
returns c seed number earlier step = (two_told step, two_comes step)

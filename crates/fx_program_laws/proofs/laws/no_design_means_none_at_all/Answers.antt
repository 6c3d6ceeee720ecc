use Rattle.fx_program.proofs.None.{one_told, one_comes}
use Rattle.fx_program_laws.proofs.laws.no_design_means_none_at_all.Goals as goal

pub returns-clause-claimed : goal.returns-clause-claimed
returns-clause-claimed c seed number earlier step valid one = one_told step valid one

pub returns-clause-certain : goal.returns-clause-certain
returns-clause-certain c seed number earlier step valid few none = one_comes step valid few none

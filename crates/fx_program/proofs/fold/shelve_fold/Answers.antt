use Rattle.fx_program.proofs.Filing.{shelved_all, shelved_none}
use Rattle.fx_program.proofs.fold.shelve_fold.Goals as goal

pub shelve_runs-requires-clause-design : goal.shelve_runs-requires-clause-design
shelve_runs-requires-clause-design g c =
    c.requires.outcome.design c.in-Some.matrix c.in-Some.is

pub returns-in-Without : goal.returns-in-Without
returns-in-Without g c = rw c.in-Without.is (shelved_all _ (shelved_none _ c.requires.ended))

pub returns-in-None : goal.returns-in-None
returns-in-None g c = rw (c.in-Factors.is, c.in-None.is) (shelved_all _ (shelved_none _ c.requires.ended))

pub returns-in-Some : goal.returns-in-Some
returns-in-Some g c = rw (c.in-Factors.is, c.in-Some.is) c.shelve_runs.ensures

use Rattle.fx_laws.proofs.Tables.{is_order-field}
use Rattle.fx_strata.proofs.Live.{clear_or_not, clear_by_tallies}
use Rattle.fx_strata.proofs.Alone.{clear_are_alone}
use Rattle.fx_strata.proofs.Alike.{same_clear}
use Rattle.fx_strata.proofs.First.{live_by_tallies}
use Rattle.fx_strata.proofs.Floored.{floor-unclear}
use Rattle.fx_strata.proofs.laws.clear_words.Goals as goal

pub returns-clause-alone : goal.returns-clause-alone
returns-clause-alone c = λ x known. clear_are_alone x (is_order-field x.q known)

pub returns-clause-same : goal.returns-clause-same
returns-clause-same c = λ x known. same_clear x (is_order-field x.q known)

pub returns-clause-all : goal.returns-clause-all
returns-clause-all c = λ x known. clear_or_not x (is_order-field x.q known)

pub returns-clause-tallies : goal.returns-clause-tallies
returns-clause-tallies c = λ x known. clear_by_tallies x (is_order-field x.q known)

pub returns-clause-live : goal.returns-clause-live
returns-clause-live c = λ x known. live_by_tallies x (is_order-field x.q known)

pub returns-clause-below : goal.returns-clause-below
returns-clause-below c = λ x known c s none D there three.
    floor-unclear x (is_order-field x.q known) c s D there none three

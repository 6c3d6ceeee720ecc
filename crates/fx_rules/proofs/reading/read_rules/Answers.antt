use Rattle.std.proofs.Common.{◌∙◌, ap}
use Rattle.std.specs.Prelude.{Ok}
use Rattle.std.proofs.lemmas.Result.{err_from_is_err_and}
use Rattle.fx_rules.specs.Reading.{matrix_in, matrix_of_rules}
use Rattle.fx_rules.proofs.Faults.{fault_inside}
use Rattle.fx_rules.proofs.Kept.{read_is_given}
use Rattle.fx_rules.proofs.reading.read_rules.Goals as goal

pub returns-in_err-building-clause-read : goal.returns-in_err-building-clause-read
unfolding matrix_of_rules
returns-in_err-building-clause-read c =
    let p = err_from_is_err_and c.from_residual.result c.from_residual.ensures.1 in
    rw (p.1, p.2) (ap matrix_in c.in_err-building.ensures)

pub returns-clause-read : goal.returns-clause-read
unfolding matrix_of_rules
returns-clause-read c = ap Ok c.into_matrix.ensures ∙ ap matrix_in c.in_ok-building.ensures

pub returns-clause-given : goal.returns-clause-given
unfolding matrix_of_rules
returns-clause-given c =
    let is = ap Ok c.into_matrix.ensures ∙ ap matrix_in c.in_ok-building.ensures in
    let h = read_is_given c.args.shape c.requires c.args.factors.now c.args.text.now in
    rw (← is) at h

pub returns-in_err-building-clause-inside : goal.returns-in_err-building-clause-inside
unfolding matrix_of_rules
returns-in_err-building-clause-inside c =
    let p = err_from_is_err_and c.from_residual.result c.from_residual.ensures.1 in
    rw (p.1, p.2)
    (rw (← (ap matrix_in c.in_err-building.ensures)) at (fault_inside c.args.shape c.args.factors.now c.args.text.now))

use Rattle.fx_program.proofs.Filing.{shelved_both, stopped_in_first}
use Rattle.fx_program.proofs.files.shelve_files.Goals as goal

pub returns-in_err-shelve_books-clause-files : goal.returns-in_err-shelve_books-clause-files
returns-in_err-shelve_books-clause-files g c =
    stopped_in_first _ c.in_err-shelve_books.field-0.0 c.in_err-shelve_books.ensures
    c.from_residual.result c.from_residual.ensures.1

pub returns-in_err-shelve_plans-clause-files : goal.returns-in_err-shelve_plans-clause-files
returns-in_err-shelve_plans-clause-files g c =
    shelved_both _ c.in_ok-shelve_books.ensures
    (stopped_in_first _ c.in_err-shelve_plans.field-0.0 c.in_err-shelve_plans.ensures.files
    c.from_residual-in_err-shelve_plans.result c.from_residual-in_err-shelve_plans.ensures.1)

pub returns-clause-files : goal.returns-clause-files
returns-clause-files g c =
    shelved_both _ c.in_ok-shelve_books.ensures
    (shelved_both _ c.in_ok-shelve_plans.ensures.files c.shelve_fold.ensures)

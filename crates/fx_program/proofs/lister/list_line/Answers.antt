use Rattle.std.proofs.Common.{sym}
use Rattle.fx_program.proofs.Endings.{after_files, stopped_in_files}
use Rattle.fx_program.proofs.lister.list_line.Goals as goal

pub returns-in_err-shelve_book : goal.returns-in_err-shelve_book
returns-in_err-shelve_book g c =
    stopped_in_files _ _ _ _ c.in_err-shelve_book.field-0.0 c.in_err-shelve_book.ensures
    c.from_residual.result c.from_residual.ensures.1

pub returns : goal.returns
returns g c =
    after_files _ _ _ c.in_ok-shelve_book.ensures (rw (sym c.as_slice.ensures) c.list.ensures.output)

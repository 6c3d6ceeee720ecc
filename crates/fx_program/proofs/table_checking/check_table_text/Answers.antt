use Rattle.std.proofs.Common.{ap}
use Rattle.fx_program.specs.TableVerdicts.{table_verdict}
use Rattle.fx_program.proofs.Endings.{lists_by}
use Rattle.fx_program.proofs.table_checking.check_table_text.Goals as goal

pub returns-in-Ok : goal.returns-in-Ok
returns-in-Ok g c = lists_by (ap table_verdict (rw c.in-Ok.is at c.take_table.ensures.read)) c.list_verdict.ensures

pub returns-in-Err-Fault : goal.returns-in-Err-Fault
returns-in-Err-Fault g c =
    lists_by (ap table_verdict (rw c.in-Err-Fault.field-0-is at c.in-Err-Fault.ensures.read)) c.refuse_book.ensures

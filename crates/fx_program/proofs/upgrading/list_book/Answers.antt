use Rattle.std.proofs.Common.{arith}
use Rattle.fx_program.proofs.Endings.{lists_stopped, lists_written}
use Rattle.fx_program.proofs.upgrading.list_book.Goals as goal

pub returns-in_err-stream_book : goal.returns-in_err-stream_book
returns-in_err-stream_book g c =
    lists_stopped _ _ 0 c.in_err-stream_book.field-0.0 c.in_err-stream_book.ensures
    c.from_residual.result c.from_residual.ensures.1

pub returns : goal.returns
returns g c = lists_written _ _ 0 (omega arith) c.in_ok-stream_book.ensures

use Rattle.std.proofs.Common.{length, ap, arith}
use Rattle.fx_laws.proofs.Tables.{is_order-field}
use Rattle.fx_program_laws.proofs.Past.{none_past}
use Rattle.fx_program_laws.proofs.laws.none_past_the_last_line.Goals as goal

pub returns : goal.returns
returns c asked lines n known table some upto =
    none_past asked (is_order-field asked.q known) n table.all _ table.hold
    (rw table.listed at some)
    (omega (arith, ap length table.listed))

use Rattle.fx_program.proofs.Endings.{lists_cut, lists_piece}
use Rattle.fx_program.proofs.listing.list.Goals as goal

pub returns-clause-output : goal.returns-clause-output
returns-clause-output g c =
    lists_piece c.args.bytes.now c.args.status c.in_ok-write_all.ensures.unchanged c.requires
    c.in_ok-write_all.ensures.done
    c.in_ok-write_all.ensures.cause.unchanged

pub returns-in_err-write_all-clause-output : goal.returns-in_err-write_all-clause-output
returns-in_err-write_all-clause-output g c =
    lists_cut c.args.bytes.now c.args.status c.in_err-write_all.ensures.unchanged
    c.from_residual.result c.from_residual.ensures.1
    c.in_err-write_all.ensures.part c.in_err-write_all.ensures.cause.failed

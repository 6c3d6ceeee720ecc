use Rattle.fx_derived.proofs.Packed.{length-unpacked}
use Rattle.fx_derived.proofs.table.Table.row.Goals as goal

pub returns-clause-width : goal.returns-clause-width
returns-clause-width c =
    rw (← c.self.view_is) (cc (c.new.ensures, length-unpacked c.len.result c.get.result.now, c.len.ensures))

use Rattle.fx_derived.proofs.Packed.{rows_wide}
use Rattle.fx_derived.proofs.table.Table.len.Goals as goal

pub returns-clause-valid : goal.returns-clause-valid
returns-clause-valid c =
    rw (← c.self.view_is) (record { each = rows_wide _ c.self.inside.rows })

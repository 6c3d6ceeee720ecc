use Rattle.fx_derived.proofs.Packed.{are_more, rows_more}
use Rattle.fx_derived.proofs.table.Table.push.Goals as goal

pub invariant_of-self-2 : goal.invariant_of-self-2
invariant_of-self-2 c =
    rw (c.in_ok-push.ensures.ok, c.as_bytes.ensures, c.as_row.ensures)
    (are_more _ c.self.inside.rows c.args.row.now (rw (← c.self.view_is) at c.requires) c.self.invariant)

pub returns-clause-ok : goal.returns-clause-ok
returns-clause-ok c =
    rw (← c.self.view_is, c.in_ok-push.ensures.ok, c.as_bytes.ensures, c.as_row.ensures)
    (cc (rows_more _ c.self.inside.rows c.args.row.now (rw (← c.self.view_is) at c.requires)))

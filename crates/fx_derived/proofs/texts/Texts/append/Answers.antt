use Rattle.std.proofs.Common.{length, ap, arith}
use Rattle.fx_derived.proofs.Packed.{are_joined, count_fits, joined}
use Rattle.fx_derived.proofs.texts.Texts.append.Goals as goal

pub overflow_add-self : goal.overflow_add-self
overflow_add-self c =
    let fits =
    count_fits _ _ (are_joined c.self.inside.len c.self.inside.bytes.items c.self.invariant c.args.row.now) in
    let bytes = rw c.as_bytes.ensures at c.in_ok-extend.ensures.ok in
    omega
    (arith, ap length bytes)

pub invariant_of-self-2 : goal.invariant_of-self-2
invariant_of-self-2 c =
    rw (c.in_ok-extend.ensures.ok, c.as_bytes.ensures, c.len.ensures)
    (are_joined c.self.inside.len c.self.inside.bytes.items c.self.invariant c.args.row.now)

pub returns-clause-ok : goal.returns-clause-ok
returns-clause-ok c =
    rw (← c.self.view_is, c.in_ok-extend.ensures.ok, c.as_bytes.ensures, c.len.ensures)
    (joined c.self.inside.len c.self.inside.bytes.items c.self.invariant c.args.row.now)

-- The entry of the table is what the operation gives.
use Rattle.std.proofs.Common.{IsTrue}
use Rattle.fx_designs.specs.Galois.{is_order}
use Rattle.fx_laws.proofs.Tables.{is_order-field}
use Rattle.fx_galois.proofs.Entries.{inverse_is}
use Rattle.fx_galois.proofs.field.Field.inv.Goals as goal

pub returns-clause-inverse : goal.returns-clause-inverse
returns-clause-inverse c =
    let order : IsTrue (is_order c.args.self.now) = rw c.self.view_is at c.self.invariant in
    cc (c.place_of_code.ensures.place, c.self.view_is, inverse_is c.args.self.now c.args.a order c.requires.code)

pub returns-clause-code : goal.returns-clause-code
returns-clause-code c =
    let order : IsTrue (is_order c.args.self.now) = rw c.self.view_is at c.self.invariant in
    rw (returns-clause-inverse c) ((is_order-field c.args.self.now order).inv_code c.args.a)

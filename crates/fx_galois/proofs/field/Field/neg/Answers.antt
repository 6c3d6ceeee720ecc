-- The entry of the table is what the operation gives.
use Rattle.std.proofs.Common.{IsTrue}
use Rattle.fx_designs.specs.Galois.{is_order}
use Rattle.fx_laws.proofs.Tables.{is_order-field}
use Rattle.fx_galois.proofs.Entries.{negative_is}
use Rattle.fx_galois.proofs.field.Field.neg.Goals as goal

pub returns-clause-negative : goal.returns-clause-negative
returns-clause-negative c =
    let order : IsTrue (is_order c.args.self.now) = rw c.self.view_is at c.self.invariant in
    cc (c.place_of_code.ensures.place, c.self.view_is, negative_is c.args.self.now c.args.a order c.requires)

pub returns-clause-code : goal.returns-clause-code
returns-clause-code c =
    let order : IsTrue (is_order c.args.self.now) = rw c.self.view_is at c.self.invariant in
    rw (returns-clause-negative c) ((is_order-field c.args.self.now order).neg_code c.args.a)

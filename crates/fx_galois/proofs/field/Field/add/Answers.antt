-- The entry of the table is what the operation gives.
use Rattle.std.proofs.Common.{IsTrue}
use Rattle.fx_designs.specs.Galois.{is_order}
use Rattle.fx_laws.proofs.Tables.{is_order-field}
use Rattle.fx_galois.proofs.Entries.{sum_is}
use Rattle.fx_galois.proofs.field.Field.add.Goals as goal

pub returns-clause-sum : goal.returns-clause-sum
returns-clause-sum c =
    let order : IsTrue (is_order c.args.self.now) = rw c.self.view_is at c.self.invariant in
    cc (
      c.place_of_pair.ensures.place,
      c.self.view_is,
      sum_is c.args.self.now c.args.a c.args.b order c.requires.left c.requires.right,
    )

pub returns-clause-code : goal.returns-clause-code
returns-clause-code c =
    let order : IsTrue (is_order c.args.self.now) = rw c.self.view_is at c.self.invariant in
    rw (returns-clause-sum c) ((is_order-field c.args.self.now order).add_code c.args.a c.args.b)

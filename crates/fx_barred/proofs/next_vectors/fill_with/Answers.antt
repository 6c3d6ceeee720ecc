use Rattle.std.proofs.Common.{◌≤◌, arith}
use Rattle.fx_barred.proofs.Listing.{range-is}
use Rattle.fx_barred.proofs.Keeping.{kept-set}
use Rattle.fx_vectors.specs.declared.shape.TheConstants.{MOST_FACTORS}
use Rattle.fx_barred.proofs.next_vectors.fill_with.Goals as goal

pub invariant_of-next-clause-range : goal.invariant_of-next-clause-range
invariant_of-next-clause-range c =
    let r = c.args.reached.now in
    let small : r.room ≤ MOST_FACTORS = omega arith in
    rw c.len-n.ensures.count at
    (range-is r.q r.room c.args.words.now c.len-n.result c.start_of.result c.start_of-2.result c.requires.words small
    c.start_of.ensures.bound c.start_of-2.ensures.bound c.start_of.ensures.before c.start_of.ensures.after
    c.start_of-2.ensures.before c.start_of-2.ensures.after)

pub returns-then-fill_table-clause-known : goal.returns-then-fill_table-clause-known
returns-then-fill_table-clause-known c =
    let r = c.args.reached.now in
    let n = c.len-n.result in
    let at = c.len-n.ensures.count in
    kept-set r.q r.m r.room c.args.words.now c.args.kept.now n c.renewed.result c.requires.known
    (omega arith)
    (rw (← at) at c.renewed.ensures)

use Rattle.std.proofs.Common.{◌≡◌, ◌+◌, ◌-◌, sym, rules}
use Rattle.csv.proofs.RecordFacts.{prev-first, prev-next}
use Rattle.fx_derived.proofs.pieces.start_of.Goals as goal

pub returns-then-i-eq0 : goal.returns-then-i-eq0
returns-then-i-eq0 c = rw c.if-i-eq0.true (sym (prev-first c.args.ends.now.items))

pub returns : goal.returns
returns c =
    let one : (c.args.i - 1) + 1 ≡ c.args.i = search rules in
    let e = rw one at (prev-next 0 c.args.ends.now.items (c.args.i - 1) c.index.result.now (rw one c.requires)) in
    cc c.index.ensures

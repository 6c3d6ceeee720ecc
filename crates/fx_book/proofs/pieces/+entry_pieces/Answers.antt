use Rattle.std.proofs.Common.{◌-◌, arith}
use Rattle.fx_vectors.specs.Shape.{dimensions_of}
use Rattle.fx_book.proofs.Joins.{entries-both}
use Rattle.fx_book.proofs.pieces.+entry_pieces.Goals as goal

pub returns : goal.returns
returns g t c =
    let from = c.args.from in
    let to = c.args.to in
    let middle = to - c.max-share.result in
    let front = c.in_ok-pieces.pieces in
    let back = c.in_ok-back.field-0 in
    let ordered = c.requires.ordered in
    entries-both (dimensions_of c.args.shape) c.args.marks.now from middle to front back c.append.new.self (omega arith)
    (omega arith)
    (rw c.in_ok-pieces.was at c.join-back.ensures.second) (rw c.in_ok-back.was at c.join-back.ensures.first)
    c.in_ok-append.ensures.ok

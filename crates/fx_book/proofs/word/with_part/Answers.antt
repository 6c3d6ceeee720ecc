use Rattle.std.proofs.Common.{arith}
use Rattle.fx_vectors.specs.Shape.{dimensions_of}
use Rattle.fx_book.proofs.Placing.{entry_fits, is_entry}
use Rattle.fx_book.proofs.word.with_part.Goals as goal

pub term-requires-clause-fits : goal.term-requires-clause-fits
term-requires-clause-fits c =
    let is =
    is_entry (dimensions_of c.args.shape) c.args.plain.last (c.args.place, c.args.code) (omega arith) (omega arith)
    (omega arith) (omega arith) in
    let fits = entry_fits c.args.shape c.requires.shaped c.args.plain.last c.args.plain.number
    (c.args.place, c.args.code) c.requires.sound.below is in
    omega arith

pub overflow_add-result : goal.overflow_add-result
overflow_add-result c =
    let is =
    is_entry (dimensions_of c.args.shape) c.args.plain.last (c.args.place, c.args.code) (omega arith) (omega arith)
    (omega arith) (omega arith) in
    let fits = entry_fits c.args.shape c.requires.shaped c.args.plain.last c.args.plain.number
    (c.args.place, c.args.code) c.requires.sound.below is in
    rw c.term.ensures (omega arith)

pub returns-clause-sound : goal.returns-clause-sound
returns-clause-sound c =
    let is =
    is_entry (dimensions_of c.args.shape) c.args.plain.last (c.args.place, c.args.code) (omega arith) (omega arith)
    (omega arith) (omega arith) in
    let fits = entry_fits c.args.shape c.requires.shaped c.args.plain.last c.args.plain.number
    (c.args.place, c.args.code) c.requires.sound.below is in
    record { rows = omega arith; below = rw c.term.ensures fits.0 }

use Rattle.std.proofs.Common.{◌-◌, ◌∙◌, sym, arith, true}
use Rattle.fx_vectors.specs.Shape.{dimensions_of}
use Rattle.fx_vectors.proofs.Limits.{words_fit}
use Rattle.fx_book.specs.Words.{is_entry_after}
use Rattle.fx_book.proofs.Placing.{entry_bounds, entry_fits}
use Rattle.fx_book.proofs.word.placed.Goals as goal

pub pow-power-requires : goal.pow-power-requires
pow-power-requires c =
    let d = dimensions_of c.args.shape in
    let b = entry_bounds d c.args.placing.last c.args.entry (sym c.is_entry_after.ensures ∙ c.if-is_entry_after.true) in
    let fits = words_fit c.args.shape c.requires.shaped (c.args.entry.0 - 1) (omega arith) in
    rw c.from.ensures (omega arith)

pub overflow_mul-result : goal.overflow_mul-result
overflow_mul-result c =
    let t = entry_fits c.args.shape c.requires.shaped c.args.placing.last c.args.placing.number c.args.entry
    c.requires.sound.below (cc (c.is_entry_after.ensures, c.if-is_entry_after.true)) in
    rw (c.pow-power.ensures, c.from.ensures) (omega arith)

pub overflow_add-result : goal.overflow_add-result
overflow_add-result c =
    let t = entry_fits c.args.shape c.requires.shaped c.args.placing.last c.args.placing.number c.args.entry
    c.requires.sound.below (cc (c.is_entry_after.ensures, c.if-is_entry_after.true)) in
    rw (c.pow-power.ensures, c.from.ensures) (omega arith)

pub returns-then-is_entry_after-clause-sound : goal.returns-then-is_entry_after-clause-sound
returns-then-is_entry_after-clause-sound c =
    let is = sym c.is_entry_after.ensures ∙ c.if-is_entry_after.true in
    let b = entry_bounds (dimensions_of c.args.shape) c.args.placing.last c.args.entry is in
    let t = entry_fits c.args.shape c.requires.shaped c.args.placing.last c.args.placing.number c.args.entry
    c.requires.sound.below is in
    record { rows = b.1; below = rw (c.pow-power.ensures, c.from.ensures) t.0 }

use Rattle.std.proofs.Common.{arith}
use Rattle.fx_table_book.proofs.Bases.{power-less}
use Rattle.fx_table_check.proofs.moved.moved_unit.Goals as goal

pub image_of-requires-clause-row : goal.image_of-requires-clause-row
image_of-requires-clause-row c =
    let e = c.power.ensures.power in
    omega (arith, power-less c.args.base c.requires.base c.args.place c.requires.place)

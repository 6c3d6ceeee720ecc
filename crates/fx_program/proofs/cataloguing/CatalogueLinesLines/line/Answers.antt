use denote.Param.Send.{given_sync, param_sync}
use Rattle.fx_program.proofs.CatalogueLines.{line_shape, shaped_book}
use Rattle.fx_program.proofs.cataloguing.CatalogueLinesLines.line.Goals as goal

pub least_line-requires-clause-shaped : goal.least_line-requires-clause-shaped
least_line-requires-clause-shaped g c lifetimes live = rw c.shape-shape.ensures
    (line_shape c.requires.number.numbers c.args.n c.requires.number.above c.requires.number.within)

pub book_of-requires-clause-shaped : goal.book_of-requires-clause-shaped
book_of-requires-clause-shaped g c lifetimes live =
    rw c.in_ok-line.ensures.line
    (rw c.shape-shape.ensures
    (shaped_book _ c.args.self.now.asked.nodes
    (line_shape c.requires.number.numbers c.args.n c.requires.number.above c.requires.number.within)))

pub least_line-requires-sync-R : goal.least_line-requires-sync-R
least_line-requires-sync-R g c lifetimes within = param_sync _ g.row.R (given_sync _ g.row.R c.requires.sync)

pub book_of-requires-sync-R : goal.book_of-requires-sync-R
book_of-requires-sync-R g c lifetimes within = param_sync _ g.row.R (given_sync _ g.row.R c.requires.sync)

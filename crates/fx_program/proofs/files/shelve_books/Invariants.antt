use Rattle.std.proofs.Common.{take}
use Rattle.fx_program.specs.Files.{book_files}
use Rattle.fx_program.specs.Outside.{shelf_view}
use Rattle.fx_program.proofs.Filing.{ShelvedSoFar}
use Rattle.fx_program.proofs.files.shelve_books.Given as goal

abbrev pub invariant-loop-named : goal.invariant-loop-named
invariant-loop-named g l =
    ShelvedSoFar (book_files l.number (take l.named-index l.books)) (shelf_view g.F.Shelf l.fn.shelf)
    (shelf_view g.F.Shelf l.shelf)

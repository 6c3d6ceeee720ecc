use Rattle.std.proofs.Common.{◌≡◌, ◌++◌, take}
use Rattle.fx_program.specs.Files.{book_lines}
use Rattle.fx_program.proofs.output_lines.put_book_lines.Given as goal

abbrev pub invariant-loop-named : goal.invariant-loop-named
invariant-loop-named l = l.out ≡ l.fn.out ++ book_lines l.number (take l.named-index l.books)

use Rattle.fx_program.proofs.AnyText.{any_text}
use Rattle.fx_program_laws.specs.BookClaims.{HighestHasBook, HighestInBlocksHasBook, LeastPatternHasBook}
use Rattle.fx_program_laws.specs.BookClaims.{LeastSizeHasBooks, MostBlocksHasBook}
use Rattle.fx_program_laws.proofs.Booked.{block_book, booked, highest_book, highest_book_in_blocks, least_book}
use Rattle.fx_program_laws.proofs.Booked.{none_booked, size_books}
use Rattle.fx_program_laws.proofs.laws.claims_have_books.Goals as goal

pub returns-clause-finished : goal.returns-clause-finished
returns-clause-finished c = booked

pub returns-clause-none : goal.returns-clause-none
returns-clause-none c = none_booked

pub returns-clause-highest : goal.returns-clause-highest
returns-clause-highest c seed number earlier = any_text (HighestHasBook seed number earlier) (highest_book seed number earlier)

pub returns-clause-highest_in_blocks : goal.returns-clause-highest_in_blocks
returns-clause-highest_in_blocks c seed number earlier =
    any_text (HighestInBlocksHasBook seed number earlier) (highest_book_in_blocks seed number earlier)

pub returns-clause-least_pattern : goal.returns-clause-least_pattern
returns-clause-least_pattern c seed number earlier = any_text (LeastPatternHasBook seed number earlier) (least_book seed number earlier)

pub returns-clause-least_size : goal.returns-clause-least_size
returns-clause-least_size c seed number earlier = any_text (LeastSizeHasBooks seed number earlier) (size_books seed number earlier)

pub returns-clause-most_blocks : goal.returns-clause-most_blocks
returns-clause-most_blocks c seed number earlier = any_text (MostBlocksHasBook seed number earlier) (block_book seed number earlier)

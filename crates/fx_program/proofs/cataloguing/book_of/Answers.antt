use Rattle.fx_program.proofs.cataloguing.book_of.Goals as goal

pub returns-in_ok-file_of-in-Least : goal.returns-in_ok-file_of-in-Least
returns-in_ok-file_of-in-Least g c = rw c.in-Least.is c.in_ok-file_of-in-Least.ensures

pub returns-in_ok-file_of-in-Nothing : goal.returns-in_ok-file_of-in-Nothing
returns-in_ok-file_of-in-Nothing g c = rw c.in-Nothing.is c.in_ok-file_of-in-Nothing.ensures

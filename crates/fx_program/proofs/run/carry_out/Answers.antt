use Rattle.std.proofs.Common.{sym, ap, ◌∙◌}
use Rattle.fx_program.specs.Output.{message}
use Rattle.fx_program.proofs.Endings.{ends_by}
use Rattle.fx_program.proofs.Commands.{unread_by, unread_done}
use Rattle.fx_program.proofs.run.carry_out.Goals as goal

pub returns-in-Make-clause-done : goal.returns-in-Make-clause-done
returns-in-Make-clause-done g c =
    rw (c.in-Ok.is, c.in-Make.is) (unread_done (c.make.ensures.whatever _ _ c.requires.shelf))

pub returns-in-Large-clause-done : goal.returns-in-Large-clause-done
returns-in-Large-clause-done g c =
    rw (c.in-Ok.is, c.in-Large.is) (unread_done (c.large.ensures.whatever _ _ c.requires.shelf))

pub returns-in-Catalogue-clause-done : goal.returns-in-Catalogue-clause-done
returns-in-Catalogue-clause-done g c =
    rw (c.in-Ok.is, c.in-Catalogue.is) (unread_done (c.list_catalogue.ensures.whatever _))

pub returns-in-Tables-clause-done : goal.returns-in-Tables-clause-done
returns-in-Tables-clause-done g c =
    rw (c.in-Ok.is, c.in-Tables.is) (unread_by c.list_table.ensures.given (c.list_table.ensures.writes.whatever _))

pub returns-in-Err-clause-done : goal.returns-in-Err-clause-done
returns-in-Err-clause-done g c =
    rw c.in-Err.is
    (unread_done
    (ends_by (ap (λ l. message l 3) (sym (c.as_slice.ensures.value ∙ c.word_line.ensures)))
    (c.list.ensures.output.whatever _ _ c.requires.shelf)))

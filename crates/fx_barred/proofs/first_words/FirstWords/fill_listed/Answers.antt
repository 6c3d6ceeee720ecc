use Rattle.fx_barred.proofs.first_words.FirstWords.fill_listed.Goals as goal

pub returns-clause-best : goal.returns-clause-best
returns-clause-best c =
    rw (← c.self.view_is) c.fill_listed.ensures.best

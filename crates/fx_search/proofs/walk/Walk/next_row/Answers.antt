use Rattle.fx_search.proofs.LotSteps.{next-child}
use Rattle.fx_search.proofs.walk.Walk.next_row.Goals as goal

pub returns : goal.returns
returns g c =
    let paused = c.requires.paused in
    next-child c.args.self.now.question.now paused.at.valid c.args.self.now.prefix.rows c.args.front
    c.args.self.now.bound paused.inner.canonical c.requires.front.front_is c.next_row.result c.next_row.ensures

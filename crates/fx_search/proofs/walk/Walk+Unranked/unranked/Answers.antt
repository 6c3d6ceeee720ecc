use Rattle.fx_search.proofs.PieceSteps.{start-ahead}
use Rattle.fx_search.proofs.walk.Walk+Unranked.unranked.Goals as goal

pub returns-clause-ahead : goal.returns-clause-ahead
returns-clause-ahead c =
    let made = c.in_ok-walk.ensures in
    start-ahead c.in_ok-walk.walk made.start (cc c.requires.plain)

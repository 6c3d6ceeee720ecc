use Rattle.fx_checker.proofs.Pending.{next_is}
use Rattle.fx_checker.proofs.walk.Walk.next_row.Goals as goal

pub returns-clause-next : goal.returns-clause-next
returns-clause-next g c =
    let at = c.requires.at in
    (next_is c.args.self.now.book.now.head.question at.valid.question _ _ at.canonical at.front_is _ at.below
    c.next_row.result c.next_row.ensures).0

pub returns-clause-child : goal.returns-clause-child
returns-clause-child g c =
    let at = c.requires.at in
    (next_is c.args.self.now.book.now.head.question at.valid.question _ _ at.canonical at.front_is _ at.below
    c.next_row.result c.next_row.ensures).1

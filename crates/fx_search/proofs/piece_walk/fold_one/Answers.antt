use Rattle.fx_search.proofs.PieceSteps.{before-past, closed-past, closed-folded, found-past, found-folded, spent-folded}
use Rattle.fx_search.proofs.piece_walk.fold_one.Goals as goal

pub returns-then-not-branch-clause-folded : goal.returns-then-not-branch-clause-folded
returns-then-not-branch-clause-folded c question tail marks pieces ends h =
    let past = rw c.if-not-branch.true at c.in_ok-take.ensures.taken in
    before-past question c.args.limit tail marks c.args.piece pieces _ c.args.marks.now h past.0

pub returns-then-not-branch-2-clause-folded : goal.returns-then-not-branch-2-clause-folded
returns-then-not-branch-2-clause-folded c question tail marks pieces ends h =
    let now = c.args.marks.now in
    let limit = c.args.limit in
    let before = rw c.if-not-branch.false at c.in_ok-take.ensures.taken in
    let past = rw c.if-not-branch-2.true at c.in_ok-take-in-Closed.ensures.taken in
    let at = rw c.in-Closed.is at h in
    closed-past question limit tail marks c.args.piece pieces ends now c.take.new.marks before.0 before.1
    c.in-Closed.best c.in-Closed.nodes c.in-Closed.own at past.0

pub returns-then-not-branch-3-clause-folded : goal.returns-then-not-branch-3-clause-folded
returns-then-not-branch-3-clause-folded c question tail marks pieces ends h =
    let now = c.args.marks.now in
    let limit = c.args.limit in
    let before = rw c.if-not-branch.false at c.in_ok-take.ensures.taken in
    let past = rw c.if-not-branch-3.true at c.in_ok-take-in-Found.ensures.taken in
    let at = rw c.in-Found.is at h in
    found-past question limit tail marks c.args.piece pieces ends now c.take.new.marks before.0 before.1
    c.in-Found.matrix c.in-Found.nodes c.in-Found.own at past.0

pub returns-else-not-branch-2-clause-folded : goal.returns-else-not-branch-2-clause-folded
returns-else-not-branch-2-clause-folded c question tail marks pieces ends h =
    let now = c.args.marks.now in
    let limit = c.args.limit in
    let new = c.take-in-Closed.new.marks in
    let before = rw c.if-not-branch.false at c.in_ok-take.ensures.taken in
    let all = rw c.if-not-branch-2.false at c.in_ok-take-in-Closed.ensures.taken in
    let at = rw c.in-Closed.is at h in
    closed-folded question limit tail marks c.args.piece pieces ends now c.take.new.marks before.0 before.1
    c.in-Closed.best c.in-Closed.nodes c.in-Closed.own at new all.0 all.1

pub returns-else-not-branch-3-clause-folded : goal.returns-else-not-branch-3-clause-folded
returns-else-not-branch-3-clause-folded c question tail marks pieces ends h =
    let now = c.args.marks.now in
    let limit = c.args.limit in
    let new = c.take-in-Found.new.marks in
    let before = rw c.if-not-branch.false at c.in_ok-take.ensures.taken in
    let all = rw c.if-not-branch-3.false at c.in_ok-take-in-Found.ensures.taken in
    let at = rw c.in-Found.is at h in
    found-folded question limit tail marks c.args.piece pieces ends now c.take.new.marks before.0 before.1
    c.in-Found.matrix c.in-Found.nodes c.in-Found.own at new all.0 all.1

pub returns-in-Spent-clause-folded : goal.returns-in-Spent-clause-folded
returns-in-Spent-clause-folded c question tail marks pieces ends h =
    let now = c.args.marks.now in
    let limit = c.args.limit in
    let before = rw c.if-not-branch.false at c.in_ok-take.ensures.taken in
    spent-folded question limit tail marks c.args.piece pieces ends now c.take.new.marks before.0 before.1
    c.in-Spent.nodes
    (rw c.in-Spent.is at h)

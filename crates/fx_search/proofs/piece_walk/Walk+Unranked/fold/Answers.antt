use Rattle.std.proofs.Common.{◌<◌, ◌+◌, ◌-◌, [], ℕ, List, None, length, length-append, sym, ap, arith}
use Rattle.fx_designs.specs.Nodes.{Mark}
use Rattle.fx_tree.specs.Search.{search_tree}
use Rattle.fx_laws.proofs.Tables.{is_order-field}
use Rattle.fx_vectors.specs.Question.{problem_of}
use Rattle.fx_search.specs.Ends.{IsSpent}
use Rattle.fx_search.specs.Asked.{IsRight}
use Rattle.fx_search.specs.LotWalks.{candidates_of, rest_of}
use Rattle.fx_search.specs.SearchPieces.{IsAhead, IsPlacedAt, IsFoldedTo, AreFolded, ArePieceEnds}
use Rattle.fx_search.specs.declared.asking.Asked.TheVariants.{Budget}
use Rattle.fx_search.specs.declared.job.JobEnd.{JobEnd}
use Rattle.fx_search.specs.declared.pieces.Piece.{Piece}
use Rattle.fx_search.specs.declared.piece_walk.Folded.{Folded}
use Rattle.fx_search.specs.declared.piece_walk.Folded.TheVariants.{AllClosed, Design, TooMany}
use Rattle.fx_search.specs.declared.unranked.Unranked.{Unranked}
use Rattle.fx_search.specs.declared.walk.Walk.{Walk}
use Rattle.fx_search.proofs.PieceSteps.{after-past, after-done, start-folding, placed-as, ahead-of-none, rest-end}
use Rattle.fx_search.proofs.Done.{done-all, done-same}
use Rattle.fx_search.proofs.Whole.{whole_spent, carried-plain}
use Rattle.fx_search.proofs.piece_walk.Walk+Unranked.fold.Goals as goal

-- the rest of the walk
abbrev rest-at : Walk Unranked → List (List ℕ)
rest-at w = rest_of (problem_of w.question.now) w.prefix.rows w.bound

-- what the fold of all came to
folded-to : (w : Walk Unranked) (pieces : List Piece) (marks : List Mark) (ends : List JobEnd) (new : List Mark)
    (f : Folded) → IsAhead w pieces marks → ArePieceEnds w.question.now (w.limit - length w.marks) 0 pieces ends
    → AreFolded w.limit pieces ends w.marks new f
    → IsFoldedTo w.question.now w.limit (rest-at w) marks [] [] (length w.marks + length pieces) new f
folded-to w pieces marks ends new f h are folded =
    folded w.question.now (rest-at w) marks (start-folding w pieces marks ends h are)

-- there are more nodes than the limit
spent-right : (w : Walk Unranked) → IsPlacedAt w
    → IsSpent (search_tree (problem_of w.question.now)) w.limit (candidates_of (problem_of w.question.now)) []
    → IsRight w.question.now w.limit (Budget None)
spent-right w h spent =
    let question = w.question.now in
    let p = problem_of question in
    let f = is_order-field question.shape.q h.paused.at.valid.shaped.order in
    let some : 0 < question.shape.s + question.shape.t = omega arith in
    ((whole_spent p f some w.limit spent, sym (carried-plain p f some w.limit h.plain), tt), tt)

pub found-requires-clause-shape : goal.found-requires-clause-shape
found-requires-clause-shape c =
    let found =
    folded-to c.args.self.now c.args.round.pieces c.args.round.after c.args.ends c.fold_all.new.marks
    (Design c.in-Design.matrix)
    c.requires.ahead c.requires.ends (rw c.in-Design.is at c.in_ok-fold_all.ensures.folded) in
    found.1

pub found-requires-clause-found : goal.found-requires-clause-found
found-requires-clause-found c =
    let found =
    folded-to c.args.self.now c.args.round.pieces c.args.round.after c.args.ends c.fold_all.new.marks
    (Design c.in-Design.matrix)
    c.requires.ahead c.requires.ends (rw c.in-Design.is at c.in_ok-fold_all.ensures.folded) in
    found.0

pub returns-in-TooMany-clause-done : goal.returns-in-TooMany-clause-done
returns-in-TooMany-clause-done c =
    let w = c.args.self.now in
    spent-right w c.requires.ahead.placed
    (folded-to w c.args.round.pieces c.args.round.after c.args.ends c.fold_all.new.marks TooMany c.requires.ahead
    c.requires.ends
    (rw c.in-TooMany.is at c.in_ok-fold_all.ensures.folded))

pub returns-then-not-branch-clause-done : goal.returns-then-not-branch-clause-done
returns-then-not-branch-clause-done c =
    let w = c.args.self.now in
    let now = c.fold_all.new.marks in
    let all = folded-to w c.args.round.pieces c.args.round.after c.args.ends now AllClosed c.requires.ahead
    c.requires.ends (rw c.in-AllClosed.is at c.in_ok-fold_all.ensures.folded) in
    spent-right w c.requires.ahead.placed
    (after-past w.question.now w.limit _ c.args.round.after now [] all.0
    (rw c.if-not-branch.true at c.in_ok-take.ensures.taken).0)

pub closed-requires-clause-closed : goal.closed-requires-clause-closed
closed-requires-clause-closed c =
    let w = c.args.self.now in
    let now = c.fold_all.new.marks in
    let p = problem_of w.question.now in
    let new = c.take.new.marks in
    let all = folded-to w c.args.round.pieces c.args.round.after c.args.ends now AllClosed c.requires.ahead
    c.requires.ends (rw c.in-AllClosed.is at c.in_ok-fold_all.ensures.folded) in
    let taken = rw c.if-not-branch.false at c.in_ok-take.ensures.taken in
    let end = c.requires.last c.if-is_last.true in
    done-all p w.limit new
    (done-same p w.limit _ [] new (rest-end p w.prefix.rows w.bound end.1 end.0)
    (after-done w.question.now w.limit _ c.args.round.after now [] all.0 new taken.0
    taken.1))

pub returns-clause-done : goal.returns-clause-done
returns-clause-done c =
    let w = c.args.self.now in
    let now = c.fold_all.new.marks in
    let new = c.take.new.marks in
    let all = folded-to w c.args.round.pieces c.args.round.after c.args.ends now AllClosed c.requires.ahead
    c.requires.ends (rw c.in-AllClosed.is at c.in_ok-fold_all.ensures.folded) in
    let taken = rw c.if-not-branch.false at c.in_ok-take.ensures.taken in
    let some = c.requires.some c.if-is_last.false in (
      ahead-of-none _ (placed-as w new w.bound (omega arith) c.requires.ahead.placed)
          (after-done w.question.now w.limit _ c.args.round.after now [] all.0 new taken.0
          taken.1),
      omega (arith, ap length taken.0, length-append now c.args.round.after),
    )

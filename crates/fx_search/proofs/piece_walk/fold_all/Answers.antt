use Rattle.std.proofs.Common.{◌≡◌, ◌∙◌, ℕ, List, [], ◌∷◌, length, sym, ap, arith, rules}
use Rattle.std.proofs.lemmas.List.{nil_from_length}
use Rattle.std.specs.Vec.Iter.{into_iter_items, into_iter_len}
use Rattle.fx_designs.specs.Nodes.{Mark}
use Rattle.fx_vectors.specs.declared.question.Question.{Question}
use Rattle.fx_search.specs.SearchPieces.{IsFolding}
use Rattle.fx_search.specs.declared.job.JobEnd.{JobEnd}
use Rattle.fx_search.specs.declared.pieces.Piece.{Piece}
use Rattle.fx_search.proofs.piece_walk.fold_all.Goals as goal

-- ends are missing
none-missing : (question : Question) (limit : ℕ) (tail : List (List ℕ)) (marks : List Mark) (piece : Piece)
    (pieces : List Piece) (now : List Mark) → IsFolding question limit tail marks (piece ∷ pieces) [] now → ⊥
none-missing question limit tail marks piece pieces now h = h.ends_are

all-folded : (question : Question) (limit : ℕ) (tail : List (List ℕ)) (marks now : List Mark) (ends : List JobEnd)
    → IsFolding question limit tail marks [] ends now → IsFolding question limit tail marks [] [] now
all-folded question limit tail marks now ends h =
    record {
      listed = h.listed;
      done = h.done;
      are = h.are;
      left = h.left;
      earlier = h.earlier;
      ends_are = tt;
      enough = h.enough;
    }

pub loop-piece-init : goal.loop-piece-init
loop-piece-init c =
    let ps =
    c.into_iter-piece-iterator.ensures.into_iter_gives.0 ∙ c.into_vec-piece-items.ensures in
    let es =
    c.into_iter-rest.ensures.rest ∙ c.into_vec.ensures in
    record {
      fits = c.requires.fits;
      folding = λ question tail marks h. (rw (ps, es) h, omega (arith, ap length ps));
    }

pub returns-in_default-clause-folded : goal.returns-in_default-clause-folded
returns-in_default-clause-folded c question tail marks h =
    let i = c.loop-piece.invariant in
    let count : into_iter_len c.loop-piece.rest ≡ length (into_iter_items c.loop-piece.rest) = search rules in
    let none =
    nil_from_length _ (sym count ∙ c.in_default.ensures.cases.0) in
    absurd (none-missing question c.args.limit tail marks c.in-Some.piece _ c.loop-piece.marks
    (rw (c.in-Some.ensures.steps.0, none) at (i.folding question tail marks h).0))

pub loop-piece-preserved : goal.loop-piece-preserved
loop-piece-preserved c =
    let i = c.loop-piece.invariant in
    let steps =
    c.in-Some.ensures.steps.0 in
    let more =
    c.in-Some-next.ensures.cases.0 in
    let one = rw c.in-AllClosed.is at c.in_ok-fold_one.ensures.folded in
    record {
      fits = c.fold_one.ensures.fits;
      folding = λ question tail marks h.
          (let was = i.folding question tail marks h in
          let both =
          one question tail marks (into_iter_items c.next.new.self) (into_iter_items c.next-in-loop-piece.new.self)
          (rw (steps, more) at was.0)
          in
          (both.0, omega (arith, ap length steps)));
    }

pub returns-in-Design-clause-folded : goal.returns-in-Design-clause-folded
returns-in-Design-clause-folded c question tail marks h =
    let i = c.loop-piece.invariant in
    let more =
    c.in-Some-next.ensures.cases.0 in
    let one = rw c.in-Design.is at c.in_ok-fold_one.ensures.folded in
    one question tail marks (into_iter_items c.next.new.self) (into_iter_items c.next-in-loop-piece.new.self)
    (rw (c.in-Some.ensures.steps.0, more) at (i.folding question tail marks h).0)

pub returns-in-TooMany-clause-folded : goal.returns-in-TooMany-clause-folded
returns-in-TooMany-clause-folded c question tail marks h =
    let i = c.loop-piece.invariant in
    let more =
    c.in-Some-next.ensures.cases.0 in
    let one = rw c.in-TooMany.is at c.in_ok-fold_one.ensures.folded in
    one question tail marks (into_iter_items c.next.new.self) (into_iter_items c.next-in-loop-piece.new.self)
    (rw (c.in-Some.ensures.steps.0, more) at (i.folding question tail marks h).0)

pub returns-clause-folded : goal.returns-clause-folded
returns-clause-folded c question tail marks h =
    let i = c.loop-piece.invariant in
    let count : into_iter_len c.loop-piece.piece-iterator ≡ length (into_iter_items c.loop-piece.piece-iterator) =
    search rules in
    let none =
    nil_from_length _ (sym count ∙ c.in-None.ensures.steps.0) in
    let here = rw none at (i.folding question tail marks h).0 in (
      all-folded question c.args.limit tail marks c.loop-piece.marks _ here,
      omega
          (arith, (i.folding question tail marks h).1, ap length none),
    )

use Rattle.std.proofs.Common.{true, false, ◌≡◌, ◌+◌, ◌-◌, ◌≤◌, ◌++◌, [], ◌∷◌, ℕ, List, Option, length}
use Rattle.std.proofs.Common.{length-append, append-nil, refl, ap, arith}
use Rattle.fx_designs.specs.Problems.{Problem}
use Rattle.fx_designs.specs.Nodes.{Mark}
use Rattle.fx_tree.specs.Ranked.{better}
use Rattle.fx_tree.specs.Search.{ranked}
use Rattle.fx_vectors.specs.Matrix.{MatrixView}
use Rattle.fx_search.specs.LotWalks.{AreAddable, IsAdded}
use Rattle.fx_search.specs.Walks.{standing_with_best}
use Rattle.fx_search.specs.Standing.{best_rows}
use Rattle.fx_search.specs.declared.job.JobEnd.{JobEnd}
use Rattle.fx_search.specs.declared.job.JobEnd.TheVariants.{Closed, Found, Spent, Cut}
use Rattle.fx_search.proofs.lot_walk.add.Goals as goal

-- an end that is not Closed passes the limit
other-spent : (p : Problem) (limit : ℕ) (lot : List ℕ) (old : List Mark) (earlier : Option (List ℕ))
    (end : JobEnd) → ((b : Option MatrixView) (n : ℕ) (ms : List Mark) → end ≡ Closed b n ms → ⊥)
    → length old ≤ limit → AreAddable p lot (limit - length old) (end ∷ [])
    → IsAdded p limit old earlier (end ∷ []) old earlier false
other-spent p limit lot old earlier (Closed b n ms) other fits h = absurd (other b n ms refl)
other-spent p limit lot old earlier (Found matrix n ms) other fits h = absurd h
other-spent p limit lot old earlier (Spent n) other fits h = let past = h in omega arith
other-spent p limit lot old earlier Cut other fits h = absurd h

-- the marks of one end fit and are added
module _ (p : Problem) (limit : ℕ) (lot : List ℕ) (old new ms : List Mark) (n : ℕ) (fits : length new ≤ limit)
    (more : new ≡ old ++ ms) (earlier best : Option (List ℕ)) where
  long : length new ≡ length old + length ms
  long = cc (length-append old ms)

  closed-added : (b : Option MatrixView) → AreAddable p lot (limit - length old) (Closed b n ms ∷ [])
      → best ≡ better (ranked p) earlier (best_rows b)
      → IsAdded p limit old earlier (Closed b n ms ∷ []) new best true
  closed-added b h is =
      (fits, omega (arith, long), cc (append-nil ms), is)

pub returns-then-not-branch : goal.returns-then-not-branch
returns-then-not-branch c = record {
  standing = refl;
  added = rw c.in-Closed.is
      (omega (
        arith,
        (rw c.if-not-branch.true at c.in_ok-take.ensures.taken).0,
        (rw c.in-Closed.is at c.requires.addable).0,
      ));
}

pub join_best-requires : goal.join_best-requires
join_best-requires c =
    record { of_lot = (rw c.in-Closed.is at c.requires.addable).1; part = c.requires.part; rows = c.requires.rows }

pub returns : goal.returns
returns c =
    let s = standing_with_best c.args.incumbent.now in
    let is = c.join_best.ensures in
    let best = ap (λ z. z.best) is in
    let taken = rw c.if-not-branch.false at c.in_ok-take.ensures.taken in
    record {
      standing = cc;
      added = rw c.in-Closed.is
          (closed-added s.problem c.args.limit s.prefix c.args.marks.now c.take.new.marks c.in-Closed.own
          c.in-Closed.nodes taken.1 taken.0 s.best (standing_with_best c.join_best.new.incumbent).best c.in-Closed.best
          (rw c.in-Closed.is at c.requires.addable) best);
    }

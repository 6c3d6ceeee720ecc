use Rattle.std.proofs.Common.{◌≡◌, ◌≤◌, take, length}
use Rattle.fx_search.specs.Walks.{IsAt}
use Rattle.fx_search.proofs.walk.Walk.go_to_parent.Given as goal

abbrev pub invariant-loop-self : goal.invariant-loop-self
invariant-loop-self g l = record {
  question : l.self.question ≡ l.fn.self.question;
  is : IsAt g.I.Incumbent.standing l.fn.self.question.now l.self;
  best : (g.I.Incumbent.standing l.self.incumbent).best ≡ (g.I.Incumbent.standing l.fn.self.incumbent).best;
  most : l.same ≤ length l.self.prefix.rows;
  rows : l.self.prefix.rows ≡ take (length l.self.prefix.rows) l.fn.self.prefix.rows;
}

abbrev pub decreases-loop-self : goal.decreases-loop-self
decreases-loop-self g l = length l.self.prefix.rows

abbrev pub invariant-loop-i : goal.invariant-loop-i
invariant-loop-i g l = record {
  question : l.self.question ≡ l.fn.self.question;
  is : IsAt g.I.Incumbent.standing l.fn.self.question.now l.self;
  best : (g.I.Incumbent.standing l.self.incumbent).best ≡ (g.I.Incumbent.standing l.fn.self.incumbent).best;
  rows : l.self.prefix.rows ≡ take l.i l.piece.rows;
}

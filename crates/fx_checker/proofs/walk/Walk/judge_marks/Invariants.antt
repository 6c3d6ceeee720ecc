use Rattle.std.proofs.Common.{◌≡◌, drop}
use Rattle.fx_checker.specs.Books.{first_flaw, flaw_of}
use Rattle.fx_checker.specs.Claims.{claim_of}
use Rattle.fx_checker.specs.Turns.{extends, pending}
use Rattle.fx_checker.specs.Walks.{IsAt}
use Rattle.fx_checker.proofs.walk.Walk.judge_marks.Given as goal

abbrev pub invariant-loop-place : goal.invariant-loop-place
invariant-loop-place g l =
    let x = claim_of l.fn.self.book.now.head in
    let marks = l.fn.self.book.now.marks in
    record {
      at : IsAt g.J.Judge.dimensions g.J.Judge.beat g.J.Judge.prefix l.fn.self.book.now l.self;
      flaw : first_flaw x (pending (extends x.problem) l.self.prefix.rows l.self.below) l.place (drop l.place marks)
          ≡ flaw_of x marks;
    }

use Rattle.std.proofs.Common.{◌≡◌, ◌+◌, length}
use Rattle.fx_vectors.specs.Question.{problem_of}
use Rattle.fx_checker.specs.Turns.{extends, pending}
use Rattle.fx_checker.specs.Walks.{IsAt}
use Rattle.fx_checker.proofs.walk.Walk.next_turn.Given as goal

abbrev pub invariant-loop-k : goal.invariant-loop-k
invariant-loop-k g l =
    let may = extends (problem_of l.fn.self.book.now.head.question) in
    record {
      at : IsAt g.J.Judge.dimensions g.J.Judge.beat g.J.Judge.prefix l.fn.self.book.now l.self;
      count : length l.self.prefix.rows + 1 ≡ l.k;
      turns : pending may l.fn.self.prefix.rows l.fn.self.below ≡ pending may l.self.prefix.rows l.self.below;
    }

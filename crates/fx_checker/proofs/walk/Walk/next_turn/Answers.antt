use Rattle.std.proofs.Common.{◌≡◌, ◌+◌, ◌-◌, [], List, ℕ, length, sym, ap, ◌∙◌, arith}
use Rattle.std.specs.List.{filter}
use Rattle.std.proofs.lemmas.List.{length-take-le}
use Rattle.fx_designs.specs.Answers.{falling}
use Rattle.fx_vectors.specs.Question.{problem_of}
use Rattle.fx_checker.specs.Turns.{extends, pending}
use Rattle.fx_checker.proofs.Pending.{popped-turns}
use Rattle.fx_checker.proofs.walk.Walk.next_turn.Goals as goal

pub loop-k-preserved : goal.loop-k-preserved
loop-k-preserved g c =
    let may = extends (problem_of c.args.self.now.book.now.head.question) in
    let rows : List ℕ = c.loop-k.self.prefix.rows in
    let n : ℕ = length rows - 1 in
    let inv = c.loop-k.invariant in
    let count = inv.count in
    let none : filter (may rows) (falling c.loop-k.self.below) ≡ [] =
    rw inv.at.book_is at c.in_default.ensures.next in
    let some : length rows ≡ n + 1 = omega (arith, inv.count, c.if-k-eq0.false) in
    let short : length c.leave.new.self.prefix.rows ≡ n =
    ap length c.leave.ensures.rows ∙ length-take-le n rows (omega arith) in
    record {
      at = rw inv.at.book_is at c.leave.ensures.at;
      count = omega arith;
      turns = inv.turns
          ∙ popped-turns may rows c.loop-k.self.below c.leave.new.self.below n none some c.leave.ensures.below
          ∙ ap (λ l. pending may l c.leave.new.self.below) (sym c.leave.ensures.rows);
    }

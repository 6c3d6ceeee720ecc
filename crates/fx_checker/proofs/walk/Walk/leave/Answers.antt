use Rattle.std.proofs.Common.{◌≡◌, ◌<◌, ◌-◌, true, List, ℕ, length, take, slice_index, sym, subst, ap, ◌∙◌, arith}
use Rattle.std.proofs.Common.{suc, take-suc}
use Rattle.std.proofs.lemmas.List.{length-take-le, take_all}
use Rattle.fx_designs.specs.Canonical.{is_canonical}
use Rattle.fx_designs.specs.Problems.{Dimensions, Requirement}
use Rattle.fx_designs.specs.Galois.{IsField}
use Rattle.fx_laws.proofs.Tables.{is_order-field}
use Rattle.fx_tree.proofs.Extensions.{canonical-front}
use Rattle.fx_vectors.specs.Shape.{dimensions_of}
use Rattle.fx_vectors.specs.Question.{requirement_of}
use Rattle.fx_checker.proofs.walk.Walk.leave.Goals as goal

-- a canonical prefix without its last row
shorter : (d : Dimensions) → IsField d.q → (wanted : Requirement) (rows : List ℕ) → 0 < length rows
    → is_canonical d wanted rows ≡ true → is_canonical d wanted (take (length rows - 1) rows) ≡ true
shorter d f wanted rows some can =
    let n : ℕ = length rows - 1 in
    let e : suc n ≡ length rows = omega arith in
    canonical-front d f wanted (take n rows) (slice_index rows n)
    (subst (λ l. is_canonical d wanted l ≡ true)
    (sym (sym (take-suc rows n 0 (omega arith)) ∙ ap (λ k. take k rows) e ∙ take_all (length rows) rows (omega arith)))
    can)

pub front_of-self-requires-clause-canonical : goal.front_of-self-requires-clause-canonical
front_of-self-requires-clause-canonical g c =
    let at = c.requires.at in
    let question = c.args.self.now.book.now.head.question in
    let d = dimensions_of question.shape in (
      requirement_of question.demands,
      rw (at.candidates_are, c.pop-2.ensures)
          (shorter d (is_order-field d.q at.valid.question.shaped.order) (requirement_of question.demands)
          c.args.self.now.prefix.rows c.requires.some at.canonical),
    )

pub returns-clause-at : goal.returns-clause-at
returns-clause-at g c =
    let at = c.requires.at in
    let question = c.args.self.now.book.now.head.question in
    let d = dimensions_of question.shape in
    let rows : List ℕ = c.args.self.now.prefix.rows in
    let long = length-take-le (length rows - 1) rows (omega arith) in
    let front = rw (at.candidates_are, c.pop-2.ensures) at c.front_of-self.ensures.front in
    rw c.pop-2.ensures (record {
      valid = at.valid;
      book_is = at.book_is;
      words_are = at.words_are;
      candidates_are = at.candidates_are;
      judge_dimensions = c.pop.ensures.dimensions ∙ at.judge_dimensions;
      judge_beat = c.pop.ensures.beat ∙ at.judge_beat;
      judge_rows = c.pop.ensures.prefix ∙ ap (λ l. take (length l - 1) l) at.judge_rows;
      shape = at.shape;
      canonical =
          shorter d (is_order-field d.q at.valid.question.shaped.order) (requirement_of question.demands) rows
          c.requires.some at.canonical;
      part = omega (arith, long, at.part);
      front_is = front;
      rank = rw at.candidates_are at c.front_of-self.ensures.rank;
      below = (let low = rw at.shape at c.row-self.ensures.below in omega arith);
    })

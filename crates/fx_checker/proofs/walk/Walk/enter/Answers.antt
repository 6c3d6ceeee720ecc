use Rattle.std.proofs.Common.{◌≡◌, ◌<◌, ◌+◌, ◌++◌, ◌∷◌, [], List, ℕ, ◌∙◌, ap, arith, length, length-append}
use Rattle.fx_laws.proofs.Tables.{is_order-field}
use Rattle.fx_tree.specs.Following.{front_of}
use Rattle.fx_tree.proofs.Nexts.{front-next}
use Rattle.fx_vectors.specs.Shape.{dimensions_of}
use Rattle.fx_checker.proofs.Pending.{all_children}
use Rattle.fx_checker.proofs.walk.Walk.enter.Goals as goal

pub returns-clause-at : goal.returns-clause-at
returns-clause-at g c =
    let at = c.requires.at in
    let question = c.args.self.now.book.now.head.question in
    let d = dimensions_of question.shape in
    let rows : List ℕ = c.args.self.now.prefix.rows in
    let front : c.next_front-self.result ≡ front_of d (rows ++ c.args.row ∷ []) =
    cc (
      c.next_front-self.ensures.front,
      at.candidates_are,
      front-next d (is_order-field d.q at.valid.question.shaped.order) _ rows c.args.row c.args.self.now.front
          at.canonical c.requires.child.below at.front_is,
    ) in
    let part : length (rows ++ c.args.row ∷ []) < question.shape.s + question.shape.t =
    omega (arith, length-append rows (c.args.row ∷ [])) in
    rw c.push-2.ensures (record {
      valid = at.valid;
      book_is = at.book_is;
      words_are = at.words_are;
      candidates_are = at.candidates_are;
      judge_dimensions = c.push.ensures.dimensions ∙ at.judge_dimensions;
      judge_beat = c.push.ensures.beat ∙ at.judge_beat;
      judge_rows = c.push.ensures.prefix ∙ ap (λ l. l ++ c.args.row ∷ []) at.judge_rows;
      shape = at.shape;
      canonical = c.requires.child.canonical;
      part = part;
      front_is = front;
      rank = rw at.candidates_are at c.next_front-self.ensures.rank;
      below = c.row_bound-self.ensures.most;
    })

pub returns-clause-all : goal.returns-clause-all
returns-clause-all g c =
    let at = c.requires.at in
    let question = c.args.self.now.book.now.head.question in
    let d = dimensions_of question.shape in
    let rows : List ℕ = c.args.self.now.prefix.rows in
    let front : c.next_front-self.result ≡ front_of d (rows ++ c.args.row ∷ []) =
    cc (
      c.next_front-self.ensures.front,
      at.candidates_are,
      front-next d (is_order-field d.q at.valid.question.shaped.order) _ rows c.args.row c.args.self.now.front
          at.canonical c.requires.child.below at.front_is,
    ) in
    all_children question at.valid.question (rows ++ c.args.row ∷ []) _ c.requires.child.canonical front _
    c.row_bound-self.ensures.most c.row_bound-self.ensures.none

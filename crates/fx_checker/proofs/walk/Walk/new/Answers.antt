use Rattle.std.proofs.Common.{[], refl, arith, rules}
use Rattle.fx_tree.proofs.Extensions.{canonical-none}
use Rattle.fx_vectors.specs.Shape.{dimensions_of}
use Rattle.fx_vectors.specs.Question.{requirement_of}
use Rattle.fx_checker.proofs.Pending.{all_children}
use Rattle.fx_checker.proofs.walk.Walk.new.Goals as goal

pub returns-clause-at : goal.returns-clause-at
returns-clause-at g c =
    let question = c.args.book.now.head.question in
    rw c.new.ensures (record {
      valid = c.requires.valid;
      book_is = refl;
      words_are = c.in_ok-words.ensures;
      candidates_are = c.of-candidates.ensures;
      judge_dimensions = c.requires.dimensions;
      judge_beat = c.requires.beat;
      judge_rows = c.requires.rows;
      shape = refl;
      canonical = canonical-none (dimensions_of question.shape) (requirement_of question.demands);
      part = search rules;
      front_is = refl;
      rank = omega arith;
      below = c.row_bound-below.ensures.most;
    })

pub returns-clause-all : goal.returns-clause-all
returns-clause-all g c =
    let question = c.args.book.now.head.question in
    all_children question c.requires.valid.question [] _
    (canonical-none (dimensions_of question.shape) (requirement_of question.demands)) refl _
    c.row_bound-below.ensures.most c.row_bound-below.ensures.none

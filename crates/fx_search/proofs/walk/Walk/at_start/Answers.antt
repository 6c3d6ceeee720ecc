use Rattle.std.proofs.Common.{[], ap, sym, refl, ◌∙◌, subst, inl, arith}
use Rattle.fx_tree.proofs.Extensions.{canonical-none}
use Rattle.fx_tree.specs.Search.{search_tree}
use Rattle.fx_vectors.specs.Shape.{dimensions_of}
use Rattle.fx_vectors.specs.Question.{problem_of, requirement_of}
use Rattle.fx_search.specs.Walks.{IsInner}
use Rattle.fx_search.proofs.LotSteps.{follow-at}
use Rattle.fx_search.proofs.Steps.{left-init}
use Rattle.fx_search.proofs.walk.Walk.at_start.Goals as goal

pub front_of-requires-clause-canonical : goal.front_of-requires-clause-canonical
front_of-requires-clause-canonical g c =
    let wanted = requirement_of c.args.question.now.demands in
    rw (c.requires.candidates, c.new-prefix.ensures)
    (wanted, canonical-none _ wanted)

pub returns-clause-at : goal.returns-clause-at
returns-clause-at g c =
    let standing = c.requires.incumbent in
    let rows = ap (λ m. m.rows) c.new-prefix.ensures in
    record {
      valid = c.requires.valid;
      question_is = refl;
      candidates = c.requires.candidates;
      shape = cc c.new-prefix.ensures;
      pruner_problem = c.in_ok-pruner.ensures.problem;
      pruner_rows = cc c.in_ok-pruner.ensures.start;
      incumbent_problem = ap (λ s. s.problem) standing;
      incumbent_rows = ap (λ s. s.prefix) standing ∙ sym rows;
    }

pub returns-clause-start : goal.returns-clause-start
returns-clause-start g c =
    let question = c.args.question.now in
    let p = problem_of question in
    let none = canonical-none (dimensions_of question.shape) (requirement_of question.demands) in
    let left =
    left-init (search_tree p) [] c.row_bound-bound.result c.row_bound-bound.ensures.most
    (λ x low up. cc (
      follow-at question c.requires.valid [] c.front_of.result x none
          (rw (c.requires.candidates, c.new-prefix.ensures) at c.front_of.ensures.front),
      c.row_bound-bound.ensures.none
          x low up,
    )) in
    let rows = ap (λ m. m.rows) c.new-prefix.ensures in
    record {
      paused = record {
        at = returns-clause-at g c;
        inner = subst (IsInner p) (sym rows)
            (record { part = omega arith; canonical = none; open_ = inl refl });
        bound = c.row_bound-bound.ensures.most;
        limit = c.requires.limit;
      };
      rows = rows;
      marks = c.new.ensures;
      best = ap (λ s. s.best) c.requires.incumbent;
      all = left;
    }

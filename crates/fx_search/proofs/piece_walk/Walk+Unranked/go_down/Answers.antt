use Rattle.std.proofs.Common.{◌<◌, ◌++◌, ◌∷◌, [], ℕ, List, length, length-append, inr, refl, sym}
use Rattle.std.proofs.Common.{◌∙◌, subst, arith}
use Rattle.fx_tree.proofs.SearchTree.{opens-plain}
use Rattle.fx_vectors.specs.Question.{problem_of}
use Rattle.fx_search.specs.Pruning.{full_length}
use Rattle.fx_search.specs.Walks.{IsInner, standing_without_best}
use Rattle.fx_search.specs.declared.unranked.Unranked.{Unranked}
use Rattle.fx_search.specs.declared.walk.Walk.{Walk}
use Rattle.fx_search.proofs.LotSteps.{all-below}
use Rattle.fx_search.proofs.Places.{at-as, at-own, paused-as}
use Rattle.fx_search.proofs.Valid.{field_of}
use Rattle.fx_search.proofs.piece_walk.Walk+Unranked.go_down.Goals as goal

pub begin_children-requires : goal.begin_children-requires
begin_children-requires c =
    let w = c.args.self.now in
    let pushed = c.in_ok-push.ensures in
    record {
      at = at-own standing_without_best w.question.now c.push.new.self pushed.at;
      canonical = rw (pushed.at.question_is, pushed.rows) c.requires.next.canonical;
    }

pub returns-clause-down : goal.returns-clause-down
returns-clause-down c =
    let w = c.args.self.now in
    let v = c.push.new.self in
    let u = c.begin_children.new.self in
    let question = w.question.now in
    let p = problem_of question in
    let child : List ℕ = w.prefix.rows ++ c.args.row ∷ [] in
    let h = c.requires.placed in
    let pushed = c.in_ok-push.ensures in
    let all = c.begin_children.ensures in
    let long = length-append w.prefix.rows (c.args.row ∷ []) in
    let part : length child < full_length p = omega arith in
    let expanded = opens-plain p h.plain child ∙ c.requires.open_ in
    let bound =
    rw pushed.at.question_is at all.bound in
    let there : Walk Unranked = record v { bound = u.bound } in
    rw all.same (record {
      placed = record {
        paused = paused-as standing_without_best question there
            (at-as standing_without_best question v there pushed.at refl refl refl refl refl refl refl)
            (subst (IsInner p) (sym pushed.rows)
            (record { part = part; canonical = c.requires.next.canonical; open_ = inr expanded })) bound
            (omega arith);
        plain = cc;
      };
      rows = pushed.rows;
      fresh = rw pushed.rows
          (all-below p (field_of question h.paused.at.valid) child u.bound (inr expanded) part
          (rw (pushed.at.question_is, pushed.rows) at all.all));
    })

use Rattle.std.proofs.Common.{◌≡◌, ℕ, ◌+◌, true, false, length, List, [], ◌∷◌, ◌++◌, arith, refl, sym, ap, ◌∙◌}
use Rattle.std.proofs.Common.{subst, length-append}
use Rattle.std.proofs.lemmas.Bool.{not-true, not-false}
use Rattle.fx_designs.specs.Demands.{is_allowed}
use Rattle.fx_designs.specs.Nodes.{Word, Worse, word_of}
use Rattle.fx_vectors.specs.Question.{problem_of}
use Rattle.fx_tree.specs.Ranked.{is_counted}
use Rattle.fx_tree.specs.Search.{ranked, IsBestAt}
use Rattle.fx_tree.proofs.Found.{barred-shut, barred-best, beaten-shut, beaten-best, open-walked, whole-shut}
use Rattle.fx_tree.proofs.Found.{better-best, first-design}
use Rattle.fx_search.specs.Pruning.{full_length}
use Rattle.fx_search.proofs.Steps.{found, shut}
use Rattle.fx_search.proofs.Valid.{least_at, field_of}
use Rattle.fx_search.proofs.Places.{at-as}
use Rattle.fx_search.proofs.walk.Walk.visit.Goals as goal

pub closes-requires : goal.closes-requires
closes-requires g c =
    let at = c.requires.at in
    record {
      part = rw (at.pruner_problem, at.pruner_rows) c.requires.child.part;
      below = rw at.pruner_problem c.requires.child.below;
    }

pub word-word-requires : goal.word-word-requires
word-word-requires g c =
    let at = c.requires.at in
    record {
      part = rw (at.pruner_problem, at.pruner_rows) c.requires.child.part;
      below = rw at.pruner_problem c.requires.child.below;
      closed = not-true _ (sym c.closes.ensures ∙ c.if-closes.true);
    }

pub kind_of-requires : goal.kind_of-requires
kind_of-requires g c =
    record {
      valid = c.requires.at.valid;
      problem = c.requires.at.incumbent_problem;
      rows = c.requires.at.incumbent_rows;
      part = c.requires.child.part;
      below = c.requires.child.below;
    }

pub keep-requires : goal.keep-requires
keep-requires g c =
    let at = c.requires.at in
    let q = c.args.self.now.prefix.rows in
    let whole : length q + 1 ≡ full_length (problem_of c.args.self.now.question.now) =
    omega (arith, c.in-Better.ensures.kind.1, length-append q (c.args.row ∷ [])) in
    record {
      whole = rw (c.in-Better.ensures.same, at.incumbent_problem, at.incumbent_rows) whole;
      below = rw (c.in-Better.ensures.same, at.incumbent_problem) c.requires.child.below;
    }

pub push-requires-in-First-2 : goal.push-requires-in-First-2
push-requires-in-First-2 g c =
    let shape = c.requires.at.shape in
    record { room = rw shape c.requires.child.part; below = rw shape c.requires.child.below }

pub push-requires-in-Open-2 : goal.push-requires-in-Open-2
push-requires-in-Open-2 g c =
    let w = c.args.self.now in
    let closes = rw (c.requires.at.pruner_problem, c.requires.at.pruner_rows) at c.closes.ensures in
    record {
      at = at-as g.I.Incumbent.standing w.question.now w
          _ c.requires.at refl refl
          refl refl refl (ap (λ s. s.problem) c.in-Open.ensures.same) (ap (λ s. s.prefix) c.in-Open.ensures.same);
      part = c.requires.child.part;
      below = c.requires.child.below;
      open_ = not-false _ (sym closes ∙ c.if-closes.false);
    }

pub returns-then-closes-clause-visited : goal.returns-then-closes-clause-visited
returns-then-closes-clause-visited g c =
    let w = c.args.self.now in
    let question = c.args.self.now.question.now in
    let p = problem_of question in
    let q = c.args.self.now.prefix.rows in
    let cc : List ℕ = q ++ c.args.row ∷ [] in
    let closes = rw (c.requires.at.pruner_problem, c.requires.at.pruner_rows) at c.closes.ensures in
    let word = rw (c.requires.at.pruner_problem, c.requires.at.pruner_rows) at c.word-word.ensures in
    let barred = not-true _ (sym closes ∙ c.if-closes.true) in
    let k = barred-shut p (field_of question c.requires.at.valid) q c.args.row barred in
    let more = rw word at c.in_ok-push.ensures.ok in
    let best = (g.I.Incumbent.standing c.args.self.now.incumbent).best in
    record {
      shape = c.requires.at.shape;
      back = at-as g.I.Incumbent.standing question w _ c.requires.at refl refl refl
          refl
          refl refl refl;
      best = barred-best p (field_of question c.requires.at.valid) q c.args.row best barred c.requires.best;
      ends = shut _ _ _ false q
          _
          _ c.args.self.now.marks c.push.new.self q cc k.shut k.mark more
          (omega (
            arith,
            ap length more,
            length-append c.args.self.now.marks (Word c.args.row (word_of p cc) ∷ []),
          )) refl;
    }

pub returns-in_ok-push-in-Beaten-clause-visited : goal.returns-in_ok-push-in-Beaten-clause-visited
returns-in_ok-push-in-Beaten-clause-visited g c =
    let w = c.args.self.now in
    let question = c.args.self.now.question.now in
    let p = problem_of question in
    let q = c.args.self.now.prefix.rows in
    let cc : List ℕ = q ++ c.args.row ∷ [] in
    let closes = rw (c.requires.at.pruner_problem, c.requires.at.pruner_rows) at c.closes.ensures in
    let was = (g.I.Incumbent.standing c.args.self.now.incumbent).best in
    let k = beaten-shut p (field_of question c.requires.at.valid) q c.args.row was c.in-Beaten.ensures.kind
    (not-false _ (sym closes ∙ c.if-closes.false)) c.requires.best in
    let more = c.in_ok-push-in-Beaten.ensures.ok in
    record {
      shape = c.requires.at.shape;
      back = at-as g.I.Incumbent.standing question w
          _ c.requires.at refl refl
          refl refl refl (ap (λ s. s.problem) c.in-Beaten.ensures.same) (ap (λ s. s.prefix) c.in-Beaten.ensures.same);
      best = rw c.in-Beaten.ensures.same
          (beaten-best p (field_of question c.requires.at.valid) q c.args.row was c.in-Beaten.ensures.kind
          c.requires.best);
      ends = shut _ _ _ false q _
          _
          c.args.self.now.marks c.push-in-Beaten.new.self q cc k.shut k.mark more
          (omega (arith, ap length more, length-append c.args.self.now.marks (Worse c.args.row ∷ []))) refl;
    }

pub returns-in_ok-push-in-Better-clause-visited : goal.returns-in_ok-push-in-Better-clause-visited
returns-in_ok-push-in-Better-clause-visited g c =
    let w = c.args.self.now in
    let question = c.args.self.now.question.now in
    let p = problem_of question in
    let q = c.args.self.now.prefix.rows in
    let cc : List ℕ = q ++ c.args.row ∷ [] in
    let closes = rw (c.requires.at.pruner_problem, c.requires.at.pruner_rows) at c.closes.ensures in
    let open_ : is_allowed p.dimensions p.requirement cc ≡ true = not-false _ (sym closes ∙ c.if-closes.false) in
    let whole : length cc ≡ full_length p =
    omega (arith, c.in-Better.ensures.kind.1, length-append q (c.args.row ∷ [])) in
    let better =
    better-best p (field_of question c.requires.at.valid) q c.args.row whole c.requires.child.canonical open_
    (g.I.Incumbent.standing c.args.self.now.incumbent).best
    c.in-Better.ensures.kind.0 c.requires.best in
    let problem : (g.I.Incumbent.standing c.kind_of.new.incumbent).problem ≡ p =
    ap (λ s. s.problem) c.in-Better.ensures.same ∙ c.requires.at.incumbent_problem in
    let kept = c.keep.ensures (least_at problem c.in-Better.ensures.kind.2) in
    let k = whole-shut p (field_of question c.requires.at.valid) q c.args.row whole c.requires.child.canonical open_
    c.in-Better.ensures.kind.2 in
    let more = c.in_ok-push-in-Better.ensures.ok in
    record {
      shape = c.requires.at.shape;
      back = at-as g.I.Incumbent.standing question w
          _ c.requires.at refl refl refl
          refl
          refl (ap (λ s. s.problem) kept ∙ ap (λ s. s.problem) c.in-Better.ensures.same)
          (ap (λ s. s.prefix) kept ∙ ap (λ s. s.prefix) c.in-Better.ensures.same);
      best = rw (kept, c.in-Better.ensures.same, c.requires.at.incumbent_rows) better;
      ends = shut _ _ _ false q _
          _
          c.args.self.now.marks c.push-in-Better.new.self q cc k.shut k.mark more
          (omega (arith, ap length more, length-append c.args.self.now.marks (Worse c.args.row ∷ []))) refl;
    }

pub returns-in_ok-push-in-First-clause-visited : goal.returns-in_ok-push-in-First-clause-visited
returns-in_ok-push-in-First-clause-visited g c =
    let w = c.args.self.now in
    let question = c.args.self.now.question.now in
    let p = problem_of question in
    let q = c.args.self.now.prefix.rows in
    let cc : List ℕ = q ++ c.args.row ∷ [] in
    let closes = rw (c.requires.at.pruner_problem, c.requires.at.pruner_rows) at c.closes.ensures in
    let k = first-design p (field_of question c.requires.at.valid) q c.args.row
    (omega (arith, c.in-First.ensures.kind.1, length-append q (c.args.row ∷ []))) c.requires.child.canonical
    (not-false _ (sym closes ∙ c.if-closes.false)) c.in-First.ensures.kind.2 in
    let more = c.in_ok-push-in-First.ensures.ok in
    let e : c.push-in-First-2.new.self.rows ≡ cc = ap (λ m. m.rows) c.push-in-First-2.ensures in
    record {
      shape = ap (λ m. m.shape) c.push-in-First-2.ensures ∙ c.requires.at.shape;
      back = tt;
      best = tt;
      ends = found _ _ _ false q _
          c.args.self.now.marks
          c.push-in-First.new.self c.push-in-First-2.new.self.rows cc _ e k.0 k.1 more
          (omega (arith, ap length more, length-append c.args.self.now.marks (Worse c.args.row ∷ [])));
    }

pub returns-in_ok-push-in-Open-2-clause-visited : goal.returns-in_ok-push-in-Open-2-clause-visited
returns-in_ok-push-in-Open-2-clause-visited g c =
    let w = c.args.self.now in
    let question = c.args.self.now.question.now in
    let p = problem_of question in
    let q = c.args.self.now.prefix.rows in
    let closes = rw (c.requires.at.pruner_problem, c.requires.at.pruner_rows) at c.closes.ensures in
    let k = open-walked p (field_of question c.requires.at.valid) q c.args.row
    (g.I.Incumbent.standing c.args.self.now.incumbent).best c.in-Open.ensures.kind.0
    (not-false _ (sym closes ∙ c.if-closes.false)) c.in-Open.ensures.kind.1 c.requires.best in
    let more = c.in_ok-push-in-Open.ensures.ok in
    let pushed = c.in_ok-push-in-Open-2.ensures in
    let ms = c.push-in-Open-2.ensures.same.2 ∙ more in
    record {
      at = pushed.at;
      rows = pushed.rows;
      best = subst (IsBestAt p (is_counted (ranked p) (q ++ c.args.row ∷ [])))
          (sym (pushed.best ∙ ap (λ s. s.best) c.in-Open.ensures.same))
          c.requires.best;
      part = c.in-Open.ensures.kind.1;
      expanded = k.is_expanded;
      marks = cc;
    }

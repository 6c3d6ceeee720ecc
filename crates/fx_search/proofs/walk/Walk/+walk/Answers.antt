use Rattle.std.proofs.Common.{Bool, ◌≡◌, ℕ, suc, ◌<◌, ◌≤◌, ◌+◌, ◌-◌, ◌^◌, true, false, length, List, [], ◌∷◌, ◌++◌}
use Rattle.std.proofs.Common.{arith, refl, sym, ap, ◌∙◌, length-append, append-nil, inl, inr, slice_index_or}
use Rattle.fx_designs.specs.Nodes.{parent}
use Rattle.fx_laws.specs.Trees.{children_of}
use Rattle.fx_laws.proofs.Candidates.{parent-push}
use Rattle.fx_vectors.specs.declared.question.Question.{Question}
use Rattle.fx_vectors.specs.Shape.{dimensions_of}
use Rattle.fx_vectors.specs.Question.{IsValid, problem_of, requirement_of}
use Rattle.fx_tree.specs.declared.front.Front.{Front}
use Rattle.fx_tree.specs.Following.{front_of, follows}
use Rattle.fx_tree.proofs.Walks.{follows-extends}
use Rattle.fx_tree.proofs.Nexts.{front-next}
use Rattle.fx_tree.specs.Ranked.{is_counted}
use Rattle.fx_tree.specs.Search.{search_tree, search_mark, ranked, IsBestAt}
use Rattle.fx_tree.proofs.Branches.{start_best, end_best, enter_best, leave_best}
use Rattle.fx_search.specs.Pruning.{full_length}
use Rattle.fx_search.specs.Walks.{IsFrontOf, LeftFrom}
use Rattle.fx_search.proofs.Lots.{whole-end}
use Rattle.fx_search.proofs.Steps.{full, below_end, below_closed, left-init, left-skip, left-next, left-low}
use Rattle.fx_search.proofs.Steps.{inside_child, over_child}
use Rattle.fx_search.proofs.Valid.{field_of, law_of, ranked_of}
use Rattle.fx_search.proofs.Places.{at-own, else-closed, visited-over}
use Rattle.fx_search.proofs.walk.Walk.+walk.Goals as goal

-- a row follows where it extends the prefix
follow_at : (question : Question) → IsValid question → (p : List ℕ) (front : Front) (x : ℕ)
    → (search_tree (problem_of question)).canonical p ≡ true → front ≡ front_of (dimensions_of question.shape) p
    → follows (dimensions_of question.shape) (requirement_of question.demands) front x
    ≡ (search_tree (problem_of question)).canonical (p ++ x ∷ [])
follow_at question valid p front x can is =
    follows-extends _ (field_of question valid) _ p front x
    can is

-- the child by the row below the bound of what is left is the next, where the row follows
next-child : (question : Question) → IsValid question → (q : List ℕ) (front : Front) (i n : ℕ) (may : Bool)
    → (search_tree (problem_of question)).canonical q ≡ true → IsFrontOf question q front → 0 < n
    → may ≡ follows (dimensions_of question.shape) (requirement_of question.demands) front (n - 1) → may ≡ true
    → LeftFrom (search_tree (problem_of question)) q i n
    → (i < length (children_of (search_tree (problem_of question)) q))
    × (n - 1 ≡ slice_index_or (children_of (search_tree (problem_of question)) q) i 0)
    × LeftFrom (search_tree (problem_of question)) q (i + 1) (n - 1)
    × ((search_tree (problem_of question)).canonical (q ++ (n - 1) ∷ []) ≡ true)
next-child question valid q front i n may can front-is some looked follows left =
    let up : n ≡ suc (n - 1) = omega (arith, some) in
    let here = sym (follow_at question valid q front (n - 1) can front-is.front_is) ∙ sym looked ∙ follows in
    let next = left-next (search_tree (problem_of question)) q i n (n - 1) up here left in
    (next.0, next.1, next.2, here)

left_init : (question : Question) → IsValid question → (p : List ℕ) (front : Front) (bound : ℕ)
    → (search_tree (problem_of question)).canonical p ≡ true → front ≡ front_of (dimensions_of question.shape) p
    → bound ≤ question.shape.q ^ question.shape.m
    → ((x : ℕ) → bound ≤ x → x < question.shape.q ^ question.shape.m
    → follows (dimensions_of question.shape) (requirement_of question.demands) front x ≡ false)
    → LeftFrom (search_tree (problem_of question)) p 0 bound
left_init question valid p front bound can is most none =
    left-init (search_tree (problem_of question)) p bound most
    (λ x low high. sym (follow_at question valid p front x can is) ∙ none x low high)

pub walk_child-returns-then-cut-clause-cutter : goal.walk_child-returns-then-cut-clause-cutter
walk_child-returns-then-cut-clause-cutter g t c = c.cut.ensures.step

pub walk_child-returns-then-cut-clause-ended : goal.walk_child-returns-then-cut-clause-ended
walk_child-returns-then-cut-clause-ended g t c = record {
  shape = c.requires.at.shape;
  back = tt;
  best = tt;
  ends = cc (c.cut.ensures.stopped, c.if-cut.true);
}

pub walk_child-returns-then-len-self-clause-cutter : goal.walk_child-returns-then-len-self-clause-cutter
walk_child-returns-then-len-self-clause-cutter g t c = c.cut.ensures.step

pub walk_child-returns-then-len-self-clause-ended : goal.walk_child-returns-then-len-self-clause-ended
walk_child-returns-then-len-self-clause-ended g t c =
    let w = c.args.self.now in
    let p = problem_of w.question.now in
    let d : List ℕ = w.prefix.rows ++ c.args.row ∷ [] in
    record {
      shape = c.requires.at.shape;
      back = tt;
      best = tt;
      ends = full (search_tree p) (search_mark p) w.limit false w.prefix.rows (full_length p - length d) w.marks w.marks
          w.prefix.rows d (cc (c.len.ensures, c.if-len-self.true));
    }

pub walk_child-returns-in_err-end-clause-cutter : goal.walk_child-returns-in_err-end-clause-cutter
walk_child-returns-in_err-end-clause-cutter g t c = c.cut.ensures.step

pub walk_child-returns-in-Some-clause-cutter : goal.walk_child-returns-in-Some-clause-cutter
walk_child-returns-in-Some-clause-cutter g t c = c.cut.ensures.step

pub walk_child-returns-in-Some-clause-ended : goal.walk_child-returns-in-Some-clause-ended
walk_child-returns-in-Some-clause-ended g t c =
    let w = c.args.self.now in
    visited-over g.I.Incumbent.standing w.question.now w.prefix.rows _ w.limit
    _ c.in-Some.end w.marks c.visit.new.self
    (omega arith)
    (rw c.in-Some.is at c.in_ok-end.ensures.visited)

pub walk_child-next_front-next-requires : goal.walk_child-next_front-next-requires
walk_child-next_front-next-requires g t c =
    let shape = c.requires.at.candidates in
    record {
      rank = rw shape c.requires.front.rank;
      room = rw (shape, c.requires.front.front_is) c.requires.child.part;
      below = rw shape c.requires.child.below;
    }

pub walk_child-walk_below-requires : goal.walk_child-walk_below-requires
walk_child-walk_below-requires g t c κs within =
    let w = c.args.self.now in
    let v = c.visit.new.self in
    let question = w.question.now in
    let p = problem_of question in
    let q = w.prefix.rows in
    let d : List ℕ = q ++ c.args.row ∷ [] in
    let front = c.next_front-next.result in
    let h = rw c.in-None.is at c.in_ok-end.ensures.visited in
    let grown = length-append q (c.args.row ∷ []) in
    let rank =
    rw c.requires.at.candidates at c.next_front-next.ensures.rank in
    let front_is : front ≡ front_of p.dimensions d =
    cc (
      c.next_front-next.ensures.front,
      c.requires.at.candidates,
      front-next p.dimensions
          (field_of question c.requires.at.valid) p.requirement q c.args.row c.args.front
          ((law_of question c.requires.at.valid).canonical q c.args.row c.requires.child.canonical)
          c.requires.child.below c.requires.front.front_is,
    ) in (
      let rows = ap length h.rows in
          let size : full_length (problem_of v.question.now) ≡ full_length p =
          cc in
          let part = c.requires.child.part in
          omega arith,
      (
        within.0,
        (
          within.1,
          (
            at-own g.I.Incumbent.standing question v h.at,
            (
              rw (h.at.question_is, h.rows)
                  (record { part = h.part; canonical = c.requires.child.canonical; open_ = inr h.expanded }),
              (
                rw (h.at.question_is, h.rows) (record { front_is = front_is; rank = rank }),
                (
                  omega (arith, ap length h.marks, length-append w.marks (search_mark p d ∷ [])),
                  (
                    rw (h.at.question_is, h.rows) h.best,
                    rw (h.at.question_is, h.rows) (λ least. omega (arith, c.requires.inside least)),
                  ),
                ),
              ),
            ),
          ),
        ),
      ),
    )

pub walk_child-returns-in_err-end-in-None-clause-cutter : goal.walk_child-returns-in_err-end-in-None-clause-cutter
walk_child-returns-in_err-end-in-None-clause-cutter g t c =
    g.met.C.Cutter.goes_on c.args.cutter.now c.cut.new.self _ c.cut.ensures.step c.in_err-end-in-None.ensures.cutter

pub walk_child-leave-requires : goal.walk_child-leave-requires
walk_child-leave-requires g t c =
    let w = c.args.self.now in
    let v = c.visit.new.self in
    let d : List ℕ = w.prefix.rows ++ c.args.row ∷ [] in
    let o = rw c.in-None.is at c.in_ok-end.ensures.visited in
    let h = rw (o.at.question_is, o.rows, c.visit.ensures.limit, c.in-Closed.is) at c.in_ok-end-in-None.ensures.ended in
    record {
      at = at-own g.I.Incumbent.standing w.question.now c.walk_below.new.self h.back;
      some = omega (arith, ap length h.ends.back, length-append w.prefix.rows (c.args.row ∷ []));
    }

pub walk_child-returns-in-Closed-clause-cutter : goal.walk_child-returns-in-Closed-clause-cutter
walk_child-returns-in-Closed-clause-cutter g t c =
    g.met.C.Cutter.goes_on c.args.cutter.now c.cut.new.self _ c.cut.ensures.step c.in_ok-end-in-None.ensures.cutter

pub walk_child-returns-in-Closed-clause-ended : goal.walk_child-returns-in-Closed-clause-ended
walk_child-returns-in-Closed-clause-ended g t c =
    let w = c.args.self.now in
    let v = c.visit.new.self in
    let u = c.walk_below.new.self in
    let x = c.leave.new.self in
    let p = problem_of w.question.now in
    let q = w.prefix.rows in
    let d : List ℕ = q ++ c.args.row ∷ [] in
    let o = rw c.in-None.is at c.in_ok-end.ensures.visited in
    let h = rw (o.at.question_is, o.rows, c.visit.ensures.limit, c.in-Closed.is) at c.in_ok-end-in-None.ensures.ended in
    let left = c.leave.ensures in
    let at = rw h.back.question_is at left.at in
    let back = left.rows ∙ ap parent h.ends.back ∙ parent-push q c.args.row in
    record {
      shape = at.shape;
      back = at;
      best = rw left.best h.best;
      ends = below_closed _ _ w.limit false q _ _
          w.marks v.marks x.marks u.prefix.rows d refl o.expanded o.part o.marks x.prefix.rows back
          (rw (← left.same.2) at h.ends);
    }

pub walk_child-returns-in_default-clause-cutter : goal.walk_child-returns-in_default-clause-cutter
walk_child-returns-in_default-clause-cutter g t c =
    g.met.C.Cutter.goes_on c.args.cutter.now c.cut.new.self _ c.cut.ensures.step c.in_ok-end-in-None.ensures.cutter

pub walk_child-returns-in_default-clause-ended : goal.walk_child-returns-in_default-clause-ended
walk_child-returns-in_default-clause-ended g t c =
    let w = c.args.self.now in
    let v = c.visit.new.self in
    let u = c.walk_below.new.self in
    let p = problem_of w.question.now in
    let q = w.prefix.rows in
    let d : List ℕ = q ++ c.args.row ∷ [] in
    let end = c.in_ok-end-in-None.end in
    let o = rw c.in-None.is at c.in_ok-end.ensures.visited in
    let h = rw (o.at.question_is, o.rows, c.visit.ensures.limit) at c.in_ok-end-in-None.ensures.ended in
    record {
      shape = h.shape;
      back = else-closed end _ c.in_default.not-Closed;
      best = else-closed end _ c.in_default.not-Closed;
      ends = below_end _ _ w.limit (g.C.Cutter.stopped c.walk_below.new.cutter) q _ _
          w.marks v.marks u.marks u.prefix.rows d refl o.expanded o.part o.marks end c.in_default.not-Closed h.ends;
    }

pub walk_below-falls-falls-requires : goal.walk_below-falls-falls-requires
walk_below-falls-falls-requires g t c = record { shape = c.requires.at.candidates }

pub walk_below-first_row-first-requires : goal.walk_below-first_row-first-requires
walk_below-first_row-first-requires g t c = record { valid = c.requires.at.valid; shape = c.requires.at.candidates }

pub walk_below-row_bound-row-requires : goal.walk_below-row_bound-row-requires
walk_below-row_bound-row-requires g t c =
    record { valid = c.requires.at.valid; shape = c.requires.at.candidates; rank = c.requires.front.rank }

pub walk_below-loop-row-init : goal.walk_below-loop-row-init
walk_below-loop-row-init g t c =
    let w = c.args.self.now in
    record {
      at = c.requires.at;
      question = refl;
      limit = refl;
      cutter = g.met.C.Cutter.stays c.args.cutter.now;
      prefix = refl;
      done = 0;
      left = left_init w.question.now c.requires.at.valid w.prefix.rows c.args.front c.row_bound-row.result
          c.requires.inner.canonical c.requires.front.front_is c.row_bound-row.ensures.most
          c.row_bound-row.ensures.none;
      marks = sym (append-nil w.marks);
      none = refl;
      fits = c.requires.fits;
      best = record {
        first = λ e. start_best _ (ranked_of w.question.now c.requires.at.valid) w.prefix.rows
            c.requires.inner.part _ (c.requires.best.first e);
      };
    }

pub walk_below-may_follow_where-requires : goal.walk_below-may_follow_where-requires
walk_below-may_follow_where-requires g t c = record {
  valid = c.requires.at.valid;
  shape = c.requires.at.candidates;
  rank = c.requires.front.rank;
  falls = c.falls-falls.ensures;
  below = omega arith;
}

pub walk_below-walk_child-requires : goal.walk_below-walk_child-requires
walk_below-walk_child-requires g t c κs within =
    let w = c.args.self.now in
    let v = c.loop-row.self in
    let question = w.question.now in
    let p = problem_of question in
    let q = w.prefix.rows in
    let i = c.loop-row.invariant in
    let r = c.loop-row.row - 1 in
    let next =
    next-child question c.requires.at.valid q c.args.front i.done c.loop-row.row _ c.requires.inner.canonical
    c.requires.front (omega arith) c.may_follow_where.ensures c.if-may_follow_where.true i.left in
    let below : r < (search_tree p).rows =
    omega arith in
    let best : IsBestAt p (is_counted (ranked p) (q ++ r ∷ [])) (g.I.Incumbent.standing v.incumbent).best =
    rw next.1 (record {
      first = λ e. enter_best _ (ranked_of question c.requires.at.valid) q c.requires.inner.part
          (inl (c.requires.inside e)) i.done next.0 _ (i.best.first e);
    }) in (
      let rows = ap length i.prefix in
          let size : full_length (problem_of v.question.now) ≡ full_length p =
          cc in
          omega arith,
      (
        within.0,
        (
          within.1,
          (
            at-own g.I.Incumbent.standing question v i.at,
            (
              rw (i.at.question_is, i.prefix)
                  (record { part = c.requires.inner.part; below = below; canonical = next.3 }),
              (
                rw (i.at.question_is, i.prefix) c.requires.front,
                (
                  omega arith,
                  (
                    rw (i.at.question_is, i.prefix) best,
                    rw (i.at.question_is, i.prefix) (λ least. omega (arith, c.requires.inside least)),
                  ),
                ),
              ),
            ),
          ),
        ),
      ),
    )

pub walk_below-returns-in_err-end-clause-cutter : goal.walk_below-returns-in_err-end-clause-cutter
walk_below-returns-in_err-end-clause-cutter g t c =
    g.met.C.Cutter.goes_on c.args.cutter.now c.loop-row.cutter _ c.loop-row.invariant.cutter c.in_err-end.ensures.cutter

pub walk_below-returns-in_default-clause-cutter : goal.walk_below-returns-in_default-clause-cutter
walk_below-returns-in_default-clause-cutter g t c =
    g.met.C.Cutter.goes_on c.args.cutter.now c.loop-row.cutter _ c.loop-row.invariant.cutter c.in_ok-end.ensures.cutter

pub walk_below-returns-in_default-clause-ended : goal.walk_below-returns-in_default-clause-ended
walk_below-returns-in_default-clause-ended g t c =
    let w = c.args.self.now in
    let v = c.loop-row.self in
    let u = c.walk_child.new.self in
    let question = w.question.now in
    let p = problem_of question in
    let q = w.prefix.rows in
    let i = c.loop-row.invariant in
    let next =
    next-child question c.requires.at.valid q c.args.front i.done c.loop-row.row _ c.requires.inner.canonical
    c.requires.front (omega arith) c.may_follow_where.ensures c.if-may_follow_where.true i.left in
    let end = c.in_ok-end.end in
    let h = rw (i.at.question_is, i.prefix, i.limit) at c.in_ok-end.ensures.ended in
    record {
      shape = h.shape;
      back = else-closed end _ c.in_default.not-Closed;
      best = else-closed end _ c.in_default.not-Closed;
      ends = inside_child _ (law_of question c.requires.at.valid) q _ w.limit i.done (c.loop-row.row - 1)
          (g.C.Cutter.stopped c.walk_child.new.cutter) w.marks v.marks u.marks u.prefix.rows end c.requires.inner.open_
          c.requires.inner.part next.0 next.1
          i.none i.marks c.in_default.not-Closed h.ends;
    }

pub walk_below-loop-row-preserved-in-Closed : goal.walk_below-loop-row-preserved-in-Closed
walk_below-loop-row-preserved-in-Closed g t c =
    let w = c.args.self.now in
    let v = c.loop-row.self in
    let u = c.walk_child.new.self in
    let question = w.question.now in
    let p = problem_of question in
    let q = w.prefix.rows in
    let i = c.loop-row.invariant in
    let next =
    next-child question c.requires.at.valid q c.args.front i.done c.loop-row.row _ c.requires.inner.canonical
    c.requires.front (omega arith) c.may_follow_where.ensures c.if-may_follow_where.true i.left in
    let h = rw (i.at.question_is, i.prefix, i.limit, c.in-Closed.is) at c.in_ok-end.ensures.ended in
    let best = rw next.1 at h.best in
    let step =
    over_child _ (law_of question c.requires.at.valid) q _ w.limit i.done (c.loop-row.row - 1) false w.marks
    v.marks _ _ next.0 next.1 i.none i.marks h.ends in
    record {
      at = h.back;
      question = cc c.walk_child.ensures.question;
      limit = cc c.walk_child.ensures.limit;
      cutter = g.met.C.Cutter.goes_on c.args.cutter.now c.loop-row.cutter _ i.cutter c.in_ok-end.ensures.cutter;
      prefix = h.ends.back;
      done = i.done + 1;
      left = next.2;
      marks = step.1;
      none = step.0;
      fits = step.2;
      best = record {
        first = λ e. leave_best _ (ranked_of question c.requires.at.valid) q c.requires.inner.part
            (inl (c.requires.inside e)) i.done next.0 _ (best.first e);
      };
    }

pub walk_below-returns-clause-cutter : goal.walk_below-returns-clause-cutter
walk_below-returns-clause-cutter g t c = c.loop-row.invariant.cutter

pub walk_below-returns-clause-ended : goal.walk_below-returns-clause-ended
walk_below-returns-clause-ended g t c =
    let w = c.args.self.now in
    let question = w.question.now in
    let p = problem_of question in
    let q = w.prefix.rows in
    let i = c.loop-row.invariant in
    let past : length (children_of (search_tree p) q) ≤ i.done = left-low (search_tree p) q i.done c.loop-row.row
    (λ x low. sym
    (follow_at question c.requires.at.valid q c.args.front x c.requires.inner.canonical c.requires.front.front_is) ∙
    c.first_row-first.ensures x (omega (arith, low, c.loop-row-test.false))) i.left in
    record {
      shape = i.at.shape;
      back = i.at;
      best = record {
        first = λ e. end_best _ (ranked_of question c.requires.at.valid) q c.requires.inner.part i.done _ past
            (i.best.first e);
      };
      ends = whole-end p (law_of question c.requires.at.valid) q c.requires.inner.open_ c.requires.inner.part w.limit
          i.done w.marks _ _ past i.none i.marks i.fits i.prefix;
    }

pub walk_below-loop-row-preserved : goal.walk_below-loop-row-preserved
walk_below-loop-row-preserved g t c =
    let w = c.args.self.now in
    let question = w.question.now in
    let p = problem_of question in
    let q = w.prefix.rows in
    let r = c.loop-row.row - 1 in
    let up : c.loop-row.row ≡ suc r = omega (arith, c.loop-row-test.true) in
    let fails =
    sym (follow_at question c.requires.at.valid q c.args.front r c.requires.inner.canonical c.requires.front.front_is) ∙
    sym c.may_follow_where.ensures ∙ c.if-may_follow_where.false in
    let i = c.loop-row.invariant in
    record {
      at = i.at;
      question = i.question;
      limit = i.limit;
      cutter = i.cutter;
      prefix = i.prefix;
      done = i.done;
      left = left-skip (search_tree p) q i.done c.loop-row.row r up fails i.left;
      marks = i.marks;
      none = i.none;
      fits = i.fits;
      best = i.best;
    }

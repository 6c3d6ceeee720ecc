-- Where a walk is, seen from its parts, and what is known of its question and prefix by equal ones.
use Rattle.std.proofs.Common.{◌≡◌, ◌≢◌, ◌<◌, ◌≤◌, ◌+◌, ◌-◌, ℕ, Bool, List, Some, refl, sym, subst, arith}
use Rattle.std.proofs.Common.{length, [], ◌∷◌}
use Rattle.fx_search.specs.Asked.{IsRight}
use Rattle.fx_search.specs.declared.asking.Asked.{Asked}
use Rattle.std.proofs.lemmas.List.{length-take-le}
use Rattle.fx_designs.specs.Nodes.{Mark, parent}
use Rattle.fx_laws.specs.Walks.{subtree}
use Rattle.fx_tree.specs.Search.{search_tree}
use Rattle.fx_vectors.specs.declared.question.Question.{Question}
use Rattle.fx_vectors.specs.Question.{problem_of}
use Rattle.fx_search.specs.Ends.{IfClosed, IsOver, IsVisited}
use Rattle.fx_search.specs.Pruning.{full_length, count_of_rows}
use Rattle.fx_search.specs.Standing.{Standing}
use Rattle.fx_search.specs.Walks.{IsAt, IsInner, IsPaused}
use Rattle.fx_search.specs.declared.walk.End.{End}
use Rattle.fx_search.specs.declared.walk.End.TheVariants.{Found, Closed, Spent, Cut}
use Rattle.fx_search.specs.declared.walk.Walk.{Walk}
use Rattle.fx_search.proofs.LotSteps.{parent-placed}
use Rattle.fx_search.proofs.Valid.{field_of}

-- nothing is to be known of an end that is not Closed
pub else-closed : (end : End) (P : Type 0) → end ≢ Closed → IfClosed end P
else-closed Found P ne = tt
else-closed Closed P ne = absurd (ne refl)
else-closed Spent P ne = tt
else-closed Cut P ne = tt

module _ {I : Type 0} (standing : I → Standing) (question : Question) where
  -- a walk whose parts are at the prefix of another is where that is
  pub at-as : (w v : Walk I) → IsAt standing question w → v.question.now ≡ w.question.now
      → v.candidates.now ≡ w.candidates.now → v.prefix ≡ w.prefix → v.pruner.problem ≡ w.pruner.problem
      → v.pruner.prefix ≡ w.pruner.prefix → (standing v.incumbent).problem ≡ (standing w.incumbent).problem
      → (standing v.incumbent).prefix ≡ (standing w.incumbent).prefix → IsAt standing question v
  at-as w v h same shape prefix problem rows known standing_rows =
      let here : v.prefix.rows ≡ w.prefix.rows = cc in
      record {
        valid = h.valid;
        question_is = cc;
        candidates = cc;
        shape = cc;
        pruner_problem = cc;
        pruner_rows = cc;
        incumbent_problem = cc;
        incumbent_rows = cc;
      }

  -- it is there by its own question
  pub at-own : (w : Walk I) → IsAt standing question w → IsAt standing w.question.now w
  at-own w h = rw (← h.question_is) at h

  -- the walk of a child is over where the visit has an end
  pub visited-over : (rows d : List ℕ) (limit : ℕ) (stopped : Bool) (end : End) (old : List Mark) (w : Walk I)
      → length old + 1 ≤ limit → IsVisited standing question rows d old w (Some end)
      → IsOver standing question rows d
      (subtree (search_tree (problem_of question)) (full_length (problem_of question) - length d) d) limit stopped old w
      end
  visited-over rows d limit stopped Found old w room h = record {
    shape = h.shape;
    back = tt;
    best = tt;
    ends = record {
      first = h.ends.first;
      marks = h.ends.marks;
      fits = let few = h.ends.fits in omega arith;
    };
  }
  visited-over rows d limit stopped Closed old w room h = record {
    shape = h.shape;
    back = h.back;
    best = h.best;
    ends = record {
      none = h.ends.none;
      marks = h.ends.marks;
      fits = let few = h.ends.fits in omega arith;
      back = h.ends.back;
    };
  }
  visited-over rows d limit stopped Spent old w room h = absurd h
  visited-over rows d limit stopped Cut old w room h = absurd h

module _ {I : Type 0} (standing : I → Standing) (question : Question) where
  -- what a walk that can go on needs, by its question
  pub paused-as : (w : Walk I) → IsAt standing question w → IsInner (problem_of question) w.prefix.rows
      → w.bound ≤ count_of_rows (problem_of question) → w.limit ≤ 5000000 → IsPaused standing w
  paused-as w at inner bound limit = record {
    at = at-own standing question w at;
    inner = rw at.question_is inner;
    bound = rw at.question_is bound;
    limit = limit;
  }

  -- a walk that has left a prefix can go on from the one before
  pub paused-left : (w v : Walk I) → question ≡ w.question.now → IsPaused standing w → 0 < length w.prefix.rows
      → IsAt standing question v → v.prefix.rows ≡ parent w.prefix.rows → v.bound < count_of_rows (problem_of question)
      → v.limit ≡ w.limit → IsPaused standing v
  paused-left w v same h some at rows bound limit =
      let rs = w.prefix.rows in
      let p = problem_of question in
      let inner = rw (← same) at h.inner in
      let up = parent-placed p (field_of question at.valid) rs some inner.canonical inner.open_ in
      let part = inner.part in
      paused-as v at
      (subst (IsInner p) (sym rows)
      (record {
        part = omega (arith, length-take-le (length rs - 1) rs (omega arith));
        canonical = up.0;
        open_ = up.1;
      })) (omega arith) (omega arith)

-- an answer to a question within a limit is one to an equal question within an equal limit
pub right-of : (asked : Asked) (walked question : Question) (limit budget : ℕ) → walked ≡ question → limit ≡ budget
    → IsRight walked limit asked → IsRight question budget asked
right-of asked walked question limit budget same is h =
    rw (← same) (rw is at h)

-- a list that is not empty has an item
pub some-of : {X : Type 0} (xs : List X) → (xs ≡ [] → ⊥) → 0 < length xs
some-of [] h = absurd (h refl)
some-of (x ∷ xs) h = omega arith

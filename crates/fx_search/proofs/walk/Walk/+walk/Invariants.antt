use Rattle.std.proofs.Common.{◌≡◌, ℕ, ◌+◌, ◌-◌, ◌*◌, ◌≤◌, false, ◌&&◌, ◌||◌, List, [], ◌∷◌, ◌++◌, map, take, length}
use Rattle.std.specs.List.{list_any, flat_map}
use Rattle.fx_vectors.specs.Question.{problem_of}
use Rattle.fx_laws.specs.Trees.{tree_of, children_of, is_tree_design}
use Rattle.fx_laws.specs.Walks.{subtree}
use Rattle.fx_tree.specs.Ranked.{is_counted, extends}
use Rattle.fx_tree.specs.Search.{search_tree, search_mark, ranked, IsBestAt}
use Rattle.fx_search.specs.Pruning.{full_length}
use Rattle.fx_designs.specs.Problems.{Problem}
use Rattle.fx_search.specs.Walks.{IsAt, LeftFrom}
use Rattle.fx_search.proofs.walk.Walk.+walk.Given as goal

-- what is below the first children of a prefix
abbrev below_children : Problem → List ℕ → ℕ → List (List ℕ)
below_children p rows i =
    flat_map (λ r. let c = rows ++ r ∷ [] in subtree (search_tree p) (full_length p - length c) c)
    (take i (children_of (search_tree p) rows))

abbrev pub decreases-walk_below : goal.decreases-walk_below
decreases-walk_below g l = 2 * (full_length (problem_of l.self.now.question.now) - length l.self.now.prefix.rows) + 1

abbrev pub decreases-walk_child : goal.decreases-walk_child
decreases-walk_child g l = 2 * (full_length (problem_of l.self.now.question.now) - length l.self.now.prefix.rows)

abbrev pub invariant-walk_below-loop-row : goal.invariant-walk_below-loop-row
invariant-walk_below-loop-row g l =
    let p = problem_of l.fn.self.question.now in
    let rows = l.fn.self.prefix.rows in
    record {
      at : IsAt g.I.Incumbent.standing l.fn.self.question.now l.self;
      question : l.self.question ≡ l.fn.self.question;
      limit : l.self.limit ≡ l.fn.self.limit;
      cutter : g.C.Cutter.may_become l.fn.cutter l.cutter;
      prefix : l.self.prefix.rows ≡ rows;
      done : ℕ;
      left : LeftFrom (search_tree p) rows done l.row;
      marks : l.self.marks ≡ l.fn.self.marks ++ map (search_mark p) (below_children p rows done);
      none : list_any (is_tree_design (search_tree p)) (below_children p rows done) ≡ false;
      fits : length l.self.marks ≤ l.fn.self.limit;
      best : IsBestAt p
          (λ d. is_counted (ranked p) rows d
          || (is_tree_design (tree_of p) d
          && list_any (λ r. extends d (rows ++ r ∷ [])) (take done (children_of (search_tree p) rows))))
          (g.I.Incumbent.standing l.self.incumbent).best;
    }

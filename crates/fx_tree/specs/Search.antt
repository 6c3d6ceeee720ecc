-- The tree that the search of a problem walks.
use Rattle.std.specs.Prelude.{ℕ, ◌≡◌, ◌+◌, ◌^◌, not, Bool, true, false, if◌then◌else◌, List, Option, Some, None, ◌&&◌}
use Rattle.fx_designs.specs.Problems.{Problem}
use Rattle.fx_designs.specs.Demands.{is_allowed}
use Rattle.fx_designs.specs.Canonical.{is_canonical}
use Rattle.fx_designs.specs.Patterns.{pattern_of, is_less}
use Rattle.fx_designs.specs.Nodes.{is_branch, mark_of, word_of, Mark}
use Rattle.fx_laws.specs.Trees.{Tree, tree_of}
use Rattle.fx_laws.specs.Walks.{mark_at}
use Rattle.fx_tree.specs.Ranked.{Ranked, IsFirstLeast}

-- the tree of a problem, with the patterns of its prefixes
abbrev pub ranked : Problem → Ranked
ranked p = record {
  tree = tree_of p;
  lot = p.dimensions.m + 1;
  less = λ a b. is_less (pattern_of p.dimensions a) (pattern_of p.dimensions b);
}

-- whether a search goes on below a prefix: where it is allowed, and where a least pattern is asked, where it is a
-- branch
unfoldable pub is_expanded : Problem → List ℕ → Bool
is_expanded p rows = (if p.least then is_branch p rows else is_allowed p.dimensions p.requirement rows)

-- the tree of the prefixes below which a search goes on
abbrev pub search_tree : Problem → Tree
search_tree p = record {
  rows = p.dimensions.q ^ p.dimensions.m;
  size = p.dimensions.s + p.dimensions.t;
  canonical = is_canonical p.dimensions p.requirement;
  allowed = is_expanded p;
  word = word_of p;
}

-- the mark of a node, by what is known when a search comes by
unfoldable pub search_mark : Problem → List ℕ → Mark
search_mark p rows = (if p.least then mark_of p rows else mark_at (tree_of p) rows)

-- whether a prefix cannot lead to anything better than the best so far
abbrev pub is_beaten : Problem → Option (List ℕ) → List ℕ → Bool
is_beaten p None rows = false
is_beaten p (Some best) rows = p.least && not (is_less (pattern_of p.dimensions rows) (pattern_of p.dimensions best))

-- where a least pattern is asked, this is the first of least pattern among the designs that pass a test
pub record IsBestAt (p : Problem) (test : List ℕ → Bool) (best : Option (List ℕ)) : Type 0 where
  pub first : p.least ≡ true → IsFirstLeast (ranked p) test best

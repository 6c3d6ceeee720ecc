-- Trees of prefixes: what the nodes, the marks and the answer of a question come to, whatever it is that makes a list
-- of rows canonical or allowed. No least pattern is asked.
use Rattle.std.specs.Prelude.{ℕ, ◌≡◌, ◌==◌, ◌+◌, ◌^◌, ◌&&◌, ◌||◌, not, nat_lt, Bool, true, if◌then◌else◌, List, [], ◌∷◌}
use Rattle.std.specs.Prelude.{◌++◌, map, filter, length, Option, find}
use Rattle.std.specs.List.{list_any}
use Rattle.fx_designs.specs.Problems.{Problem}
use Rattle.fx_designs.specs.Demands.{is_allowed}
use Rattle.fx_designs.specs.Canonical.{is_canonical}
use Rattle.fx_designs.specs.Answers.{before, falling, lists}
use Rattle.fx_designs.specs.Nodes.{parent, last_row, is_not_after, word_of, Mark, Branch, Word, Worse}

-- rows are below `rows`, a whole list has `size` of them, and `word` tells why a list is not allowed
pub record Tree : Type 0 where
  pub rows : ℕ
  pub size : ℕ
  pub canonical : List ℕ → Bool
  pub allowed : List ℕ → Bool
  pub word : List ℕ → ℕ

-- what is canonical or allowed stays so without its last row
pub record IsTree (t : Tree) : Type 0 where
  pub canonical : (p : List ℕ) (r : ℕ) → t.canonical (p ++ r ∷ []) ≡ true → t.canonical p ≡ true
  pub allowed : (p : List ℕ) (r : ℕ) → t.allowed (p ++ r ∷ []) ≡ true → t.allowed p ≡ true

-- the tree of a problem
abbrev pub tree_of : Problem → Tree
tree_of p = record {
  rows = p.dimensions.q ^ p.dimensions.m;
  size = p.dimensions.s + p.dimensions.t;
  canonical = is_canonical p.dimensions p.requirement;
  allowed = is_allowed p.dimensions p.requirement;
  word = word_of p;
}

-- the lists of one to `size` rows, in order
abbrev pub tree_prefixes : Tree → List (List ℕ)
tree_prefixes t = lists t.rows t.size

-- a canonical allowed list of that size
abbrev pub is_tree_design : Tree → List ℕ → Bool
is_tree_design t d = (length d == t.size) && (t.canonical d && t.allowed d)

-- the first design
abbrev pub tree_answer : Tree → Option (List ℕ)
tree_answer t = find (is_tree_design t) (tree_prefixes t)

-- allowed, not whole, and no design precedes it
abbrev pub is_tree_branch : Tree → List ℕ → Bool
is_tree_branch t p =
    t.allowed p
    && (nat_lt (length p) t.size && not (list_any (λ d. is_tree_design t d && before d p) (tree_prefixes t)))

-- canonical, and without its last row empty or a branch, and not after the answer
abbrev pub is_tree_node : Tree → List ℕ → Bool
is_tree_node t p =
    t.canonical p && (((length (parent p) == 0) || is_tree_branch t (parent p)) && is_not_after (tree_answer t) p)

-- the nodes of a tree, in order
unfoldable pub tree_nodes : Tree → List (List ℕ)
tree_nodes t = filter (is_tree_node t) (tree_prefixes t)

-- the mark of a node
abbrev pub tree_mark : Tree → List ℕ → Mark
tree_mark t p =
    (if t.allowed p
    then (if is_tree_branch t p then Branch (last_row p) else Worse (last_row p)) else Word (last_row p) (t.word p))

-- the marks of all nodes, in order
unfoldable pub tree_marks : Tree → List Mark
tree_marks t = map (tree_mark t) (tree_nodes t)

-- the rows by which a prefix is longer and canonical, the greatest first
abbrev pub children_of : Tree → List ℕ → List ℕ
children_of t p = filter (λ r. t.canonical (p ++ r ∷ [])) (falling t.rows)

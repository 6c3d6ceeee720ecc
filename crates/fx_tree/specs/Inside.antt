-- The nodes of a tree inside a job.
use Rattle.std.specs.Prelude.{ℕ, Bool, not, ◌&&◌, ◌||◌, nat_lt, List, length, filter, find}
use Rattle.std.specs.List.{list_any}
use Rattle.fx_designs.specs.Vectors.{same}
use Rattle.fx_designs.specs.Answers.{before}
use Rattle.fx_designs.specs.Nodes.{parent, is_not_after}
use Rattle.fx_laws.specs.Trees.{Tree, tree_prefixes, is_tree_design}
use Rattle.fx_tree.specs.Ranked.{extends}

-- a design that begins with j
abbrev pub is_own : Tree → List ℕ → List ℕ → Bool
is_own t j d = is_tree_design t d && extends d j

-- allowed, not whole, and no design that begins with j precedes it
abbrev pub is_branch_in : Tree → List ℕ → List ℕ → Bool
is_branch_in t j p =
    t.allowed p && (nat_lt (length p) t.size && not (list_any (λ d. is_own t j d && before d p) (tree_prefixes t)))

-- j itself, or what begins with j and is without its last row such a branch, and not after the first design that begins
-- with j
abbrev pub is_node_in : Tree → List ℕ → List ℕ → Bool
is_node_in t j p =
    extends p j
    && (t.canonical p
    && ((same p j || is_branch_in t j (parent p)) && is_not_after (find (is_own t j) (tree_prefixes t)) p))

unfoldable pub nodes_in : Tree → List ℕ → List (List ℕ)
nodes_in t j = filter (is_node_in t j) (tree_prefixes t)

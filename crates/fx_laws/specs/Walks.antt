-- Walks through a tree of prefixes, seen as lists of the prefixes that they come by.
use Rattle.std.specs.Prelude.{ℕ, ◌==◌, ◌&&◌, ◌||◌, nat_lt, Bool, if◌then◌else◌, List, [], ◌∷◌, ◌++◌, map, filter}
use Rattle.std.specs.Prelude.{length}
use Rattle.fx_designs.specs.Answers.{lists}
use Rattle.fx_designs.specs.Nodes.{parent, last_row, Mark, Branch, Word, Worse}
use Rattle.fx_laws.specs.Trees.{Tree}

-- the items up to and with the first that passes
abbrev pub through : {X : Type 0} → (X → Bool) → List X → List X
through D [] = []
through D (x ∷ xs) = x ∷ (if D x then [] else through D xs)

-- canonical, and without its last row empty or allowed
abbrev pub is_candidate : Tree → List ℕ → Bool
is_candidate t p = t.canonical p && ((length (parent p) == 0) || t.allowed (parent p))

-- the candidates that extend p by one to k rows, in order
unfoldable pub under : Tree → ℕ → List ℕ → List (List ℕ)
under t k p = filter (is_candidate t) (map (λ s. p ++ s) (lists t.rows k))

-- a candidate, and those that extend it by at most k rows
abbrev pub subtree : Tree → ℕ → List ℕ → List (List ℕ)
subtree t k c = c ∷ (if t.allowed c then under t k c else [])

-- the mark of a node, told from the node alone
abbrev pub mark_at : Tree → List ℕ → Mark
mark_at t p =
    (if t.allowed p
    then (if nat_lt (length p) t.size then Branch (last_row p) else Worse (last_row p))
    else Word (last_row p) (t.word p))

-- Trees whose prefixes have patterns: what counts, branches, and the best so far.
use Rattle.std.specs.Prelude.{ℕ, ◌≡◌, ◌<◌, ◌+◌, ◌&&◌, ◌||◌, ◌==◌, not, nat_lt, nat_le, Bool, true, false, if◌then◌else◌}
use Rattle.std.specs.Prelude.{List, [], ◌∷◌, ◌++◌, length, take, Option, Some, None, ⊤}
use Rattle.std.specs.List.{list_any}
use Rattle.fx_designs.specs.Vectors.{same}
use Rattle.fx_designs.specs.Answers.{before}
use Rattle.fx_laws.specs.Trees.{Tree, IsTree, tree_prefixes, is_tree_design}

-- a tree whose prefixes have patterns: `less p q` where that of p is less; a lot has `lot` rows, and a job one more
pub record Ranked : Type 0 where
  pub tree : Tree
  pub lot : ℕ
  pub less : List ℕ → List ℕ → Bool

-- rows are below the bound; less is an order, and a prefix is not greater than what extends it
pub record IsRanked (x : Ranked) : Type 0 where
  pub tree : IsTree x.tree
  pub ranged : (p : List ℕ) (r : ℕ) → x.tree.canonical (p ++ r ∷ []) ≡ true → r < x.tree.rows
  pub not_both : (p q : List ℕ) → x.less p q ≡ true → x.less q p ≡ false
  pub apart : (p q r : List ℕ) → x.less p q ≡ true → x.less r q ≡ false → x.less p r ≡ true
  pub longer : (p s : List ℕ) → x.less (p ++ s) p ≡ false

-- whether d begins with p
abbrev pub extends : List ℕ → List ℕ → Bool
extends d [] = true
extends [] (b ∷ q) = false
extends (a ∷ d) (b ∷ q) = (a == b) && extends d q

-- whether d counts for p: it precedes it, and is not in another job of its lot
abbrev pub counts_for : Ranked → List ℕ → List ℕ → Bool
counts_for x d p =
    before d p
    && not (nat_le (x.lot + 1) (length p)
    && (same (take x.lot d) (take x.lot p) && not (same (take (x.lot + 1) d) (take (x.lot + 1) p))))

-- the designs that count for p
abbrev pub is_counted : Ranked → List ℕ → List ℕ → Bool
is_counted x p d = is_tree_design x.tree d && counts_for x d p

-- those and the designs from p on
abbrev pub is_counted_through : Ranked → List ℕ → List ℕ → Bool
is_counted_through x p d = is_counted x p d || (is_tree_design x.tree d && extends d p)

-- allowed, not whole, and less than each design that counts
abbrev pub is_ranked_branch : Ranked → List ℕ → Bool
is_ranked_branch x p =
    x.tree.allowed p
    && (nat_lt (length p) x.tree.size
    && not (list_any (λ d. is_counted x p d && not (x.less p d)) (tree_prefixes x.tree)))

-- the tree whose allowed prefixes are the branches
abbrev pub branches : Ranked → Tree
branches x =
    record {
      rows = x.tree.rows;
      size = x.tree.size;
      canonical = x.tree.canonical;
      allowed = is_ranked_branch x;
      word = x.tree.word;
    }

-- the first of least pattern among the lists that pass a test, or none where none passes
abbrev pub IsFirstLeast : Ranked → (List ℕ → Bool) → Option (List ℕ) → Type 0
IsFirstLeast x P None = (d : List ℕ) → P d ≡ true → ⊥
IsFirstLeast x P (Some b) =
    (P b ≡ true) × ((d : List ℕ) → P d ≡ true → x.less d b ≡ false)
    × ((d : List ℕ) → P d ≡ true → before d b ≡ true → x.less b d ≡ true)

-- a prefix is not greater or greater than the best so far
abbrev pub Wins : Ranked → List ℕ → Option (List ℕ) → Type 0
Wins x c None = ⊤
Wins x c (Some b) = x.less c b ≡ true

abbrev pub Loses : Ranked → List ℕ → Option (List ℕ) → Type 0
Loses x c None = ⊥
Loses x c (Some b) = x.less c b ≡ false

-- the better of two, the first where the second is not less
abbrev pub better : Ranked → Option (List ℕ) → Option (List ℕ) → Option (List ℕ)
better x o None = o
better x None (Some c) = Some c
better x (Some b) (Some c) = (if x.less c b then Some c else Some b)

-- the best of a part, where something better is known or not: none where nothing of the part is less
abbrev pub IsPartBest : Ranked → (List ℕ → Bool) → Option (List ℕ) → Option (List ℕ) → Type 0
IsPartBest x P None o = IsFirstLeast x P o
IsPartBest x P (Some b) None = (d : List ℕ) → P d ≡ true → x.less d b ≡ false
IsPartBest x P (Some b) (Some c) = IsFirstLeast x P (Some c) × (x.less c b ≡ true)

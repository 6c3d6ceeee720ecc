-- Spans of rows, and their rank.
use Rattle.std.specs.Prelude.{ℕ, ◌==◌, ◌+◌, Bool, if◌then◌else◌, List, [], ◌∷◌, ◌++◌, length}
use Rattle.std.specs.List.{list_any}
use Rattle.fx_designs.specs.Galois.{number}
use Rattle.fx_designs.specs.Vectors.{combination}
use Rattle.fx_designs.specs.Runs.{points}

-- whether v is a combination of the rows
unfoldable pub in_span : ℕ → ℕ → List (List ℕ) → List ℕ → Bool
in_span q m rows v = list_any (λ u. number q (combination q m u rows) == number q v) (points q (length rows))

-- how many rows are outside the span of the rows before them
abbrev pub rank_after : ℕ → ℕ → List (List ℕ) → List (List ℕ) → ℕ
rank_after q m before [] = 0
rank_after q m before (r ∷ rows) = (if in_span q m before r then 0 else 1) + rank_after q m (before ++ r ∷ []) rows

-- the rank of the rows: the dimension of their span
abbrev pub rank_of : ℕ → ℕ → List (List ℕ) → ℕ
rank_of q m rows = rank_after q m [] rows

-- Which prefixes have their turn, where a test says which rows may follow the rows of a prefix.
use Rattle.std.specs.Prelude.{ℕ, ◌≡◌, Bool, List, [], ◌∷◌, ◌++◌, map, filter, length, take, slice_index, zero, suc}
use Rattle.std.specs.Prelude.{Option, Some, None}
use Rattle.fx_designs.specs.Answers.{falling}
use Rattle.fx_designs.specs.Canonical.{is_canonical}
use Rattle.fx_designs.specs.Problems.{Problem}

-- whether a row extends a prefix to a canonical one
abbrev pub extends : Problem → List ℕ → ℕ → Bool
extends p rows r = is_canonical p.dimensions p.requirement (rows ++ r ∷ [])

-- a prefix with each row below a bound that may follow, the greatest first
abbrev pub children_below : (List ℕ → ℕ → Bool) → List ℕ → ℕ → List (List ℕ)
children_below follows rows bound = map (λ r. rows ++ r ∷ []) (filter (follows rows) (falling bound))

-- what has its turn after all that is below the first k rows
abbrev pub after : (List ℕ → ℕ → Bool) → List ℕ → ℕ → List (List ℕ)
after follows rows zero = []
after follows rows (suc k) = children_below follows (take k rows) (slice_index rows k) ++ after follows rows k

-- what has its turn, where of a prefix the children from a bound on are done
abbrev pub pending : (List ℕ → ℕ → Bool) → List ℕ → ℕ → List (List ℕ)
pending follows rows below = children_below follows rows below ++ after follows rows (length rows)

-- where a next prefix is found
abbrev pub IsNext : (List ℕ → ℕ → Bool) → List (List ℕ) → List ℕ → Option ℕ → Type 0
IsNext follows turns rows None = turns ≡ []
IsNext follows turns rows (Some row) = turns ≡ (rows ++ row ∷ []) ∷ pending follows rows row

-- the greatest row below a bound that may follow
abbrev pub IsGreatest : (List ℕ → ℕ → Bool) → List ℕ → ℕ → Option ℕ → Type 0
IsGreatest follows rows below None = filter (follows rows) (falling below) ≡ []
IsGreatest follows rows below (Some row) =
    filter (follows rows) (falling below) ≡ row ∷ filter (follows rows) (falling row)

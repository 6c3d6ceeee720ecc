-- The children of a canonical prefix: the canonical prefixes with one more row.
use Rattle.std.specs.Prelude.{ℕ, ◌^◌, List, [], ◌∷◌, ◌++◌, map, filter}
use Rattle.fx_designs.specs.Problems.{Dimensions, Requirement}
use Rattle.fx_designs.specs.Canonical.{is_canonical}
use Rattle.fx_designs.specs.Answers.{falling}

-- the rows that extend a prefix to a canonical prefix, the greatest first
abbrev pub next_rows : Dimensions → Requirement → List ℕ → List ℕ
next_rows d wanted rows = filter (λ r. is_canonical d wanted (rows ++ r ∷ [])) (falling (d.q ^ d.m))

-- the prefix extended by each of these rows, in the order of `before`
abbrev pub children : Dimensions → Requirement → List ℕ → List (List ℕ)
children d wanted rows = map (λ r. rows ++ r ∷ []) (next_rows d wanted rows)

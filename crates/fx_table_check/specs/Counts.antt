-- What the words of a prefix are counted from.
use Rattle.std.specs.Prelude.{ℕ, ◌*◌, ◌/◌, ◌^◌, ◌-◌, List, map, slice_index}
use Rattle.fx_designs.specs.Patterns.{pattern_of}
use Rattle.fx_strata.specs.Designs.{Strata}
use Rattle.fx_strata.specs.Canonical.{dimensions_of}

-- a row modulo the base: with zeros in place of its first h digits
abbrev pub coset : Strata → ℕ → ℕ
coset x r = r / x.q ^ x.h * x.q ^ x.h

abbrev pub cosets : Strata → List ℕ → List ℕ
cosets x rows = map (λ r. coset x r) rows

-- the entry at i of the pattern of the rows modulo the base, less that of the rows
abbrev pub confounded_at : Strata → List ℕ → ℕ → ℕ
confounded_at x rows i =
    slice_index (pattern_of (dimensions_of x) (cosets x rows)) i
    - slice_index (pattern_of (dimensions_of x) rows) i

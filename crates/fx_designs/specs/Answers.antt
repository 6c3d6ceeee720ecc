-- The order of lists of rows, and the answer of a problem.
use Rattle.std.specs.Prelude.{ℕ, zero, suc, ◌==◌, ◌+◌, ◌^◌, ◌&&◌, ◌||◌, not, nat_lt, Bool, true, false, List, [], ◌∷◌}
use Rattle.std.specs.Prelude.{map, filter, length, Option, find}
use Rattle.std.specs.List.{flat_map, list_all}
use Rattle.fx_designs.specs.Problems.{Problem}
use Rattle.fx_designs.specs.Demands.{is_met}
use Rattle.fx_designs.specs.Patterns.{pattern_of, is_less}
use Rattle.fx_designs.specs.Canonical.{is_canonical}

-- whether p precedes r: the greater row decides at the first difference, and a proper prefix stands first
abbrev pub before : List ℕ → List ℕ → Bool
before p [] = false
before [] (b ∷ r) = true
before (a ∷ p) (b ∷ r) = nat_lt b a || ((a == b) && before p r)

-- the numbers below n, the greatest first
abbrev pub falling : ℕ → List ℕ
falling zero = []
falling (suc n) = n ∷ falling n

-- all lists of one to k rows below n, in the order of `before`
unfoldable pub lists : ℕ → ℕ → List (List ℕ)
lists n zero = []
lists n (suc k) = flat_map (λ r. map (λ rest. r ∷ rest) ([] ∷ lists n k)) (falling n)

-- the lists of one to s + t rows below q^m, in the order of `before`
abbrev pub prefixes : Problem → List (List ℕ)
prefixes p = lists (p.dimensions.q ^ p.dimensions.m) (p.dimensions.s + p.dimensions.t)

-- a canonical matrix that meets the requirement
abbrev pub is_design : Problem → List ℕ → Bool
is_design p rows =
    (length rows == p.dimensions.s + p.dimensions.t)
    && (is_canonical p.dimensions p.requirement rows && is_met p.dimensions p.requirement rows)

-- the designs of a problem, in the order of `before`
unfoldable pub designs : Problem → List (List ℕ)
designs p = filter (is_design p) (prefixes p)

-- whether no design has a less pattern than this one
abbrev pub is_of_least_pattern : Problem → List ℕ → Bool
is_of_least_pattern p rows =
    list_all (λ other. not (is_less (pattern_of p.dimensions other) (pattern_of p.dimensions rows))) (designs p)

-- the first design, where a least pattern is asked the first of those of least pattern
unfoldable pub answer : Problem → Option (List ℕ)
answer p = find (λ rows. not p.least || is_of_least_pattern p rows) (designs p)

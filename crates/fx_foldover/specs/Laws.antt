-- What is known of combined plans. Factor rows are given by their numbers.
use Rattle.std.specs.Prelude.{ℕ, ◌≡◌, ◌<◌, ◌≤◌, ◌+◌, ◌%◌, ◌==◌, ◌&&◌, true, false, List, length, slice_index, All}
use Rattle.fx_designs.specs.Patterns.{constant_words, pattern_of, resolution_of}
use Rattle.fx_designs.specs.Problems.{Dimensions}
use Rattle.fx_designs.specs.Runs.{is_constant, is_balanced, runs_of}
use Rattle.fx_designs.specs.Vectors.{weight, vectors_of, IsVector}
use Rattle.fx_foldover.specs.Foldovers.{combined_plan, combined_pattern, combined_rows, combined_words, folded_count}

-- the runs of factor rows
abbrev pub runs_at : ℕ → List ℕ → List (List ℕ)
runs_at m rows = runs_of 2 m (vectors_of 2 m rows)

-- the dimensions of a design of so many run indexes and factors
abbrev pub two_levels : ℕ → ℕ → Dimensions
two_levels m s = record { q = 2; m = m; s = s; t = 0 }

-- a vector is constant over the combined plan exactly where it is constant over the runs of the design, and has an even
-- number of folded factors
abbrev pub CombinedWordsAreEven : Type 0
CombinedWordsAreEven = (m : ℕ) (rows fold u : List ℕ) → length fold ≡ length rows → IsVector 2 (length rows) u
    → is_constant 2 u (combined_plan fold (runs_at m rows))
    ≡ (is_constant 2 u (runs_at m rows) && (folded_count fold u % 2 == 0))

-- every other vector is balanced over it
abbrev pub OthersAreBalanced : Type 0
OthersAreBalanced = (m : ℕ) (rows fold u : List ℕ) → length fold ≡ length rows → IsVector 2 (length rows) u
    → is_constant 2 u (combined_plan fold (runs_at m rows)) ≡ false
    → is_balanced 2 u (combined_plan fold (runs_at m rows)) ≡ true

-- each factor is folded
abbrev pub IsFull : List ℕ → Type 0
IsFull fold = All (λ f. 0 < f) fold

-- after a full fold no vector of odd weight is constant over the combined plan
abbrev pub FullFoldHasNoOddWord : Type 0
FullFoldHasNoOddWord = (m : ℕ) (rows fold u : List ℕ) → length fold ≡ length rows → IsFull fold
    → IsVector 2 (length rows) u → weight u % 2 ≡ 1
    → is_constant 2 u (combined_plan fold (runs_at m rows)) ≡ false

-- and so B_k is 0 for each odd k; B_k is at k - 1 in the pattern
abbrev pub FullFoldHasNoOddCount : Type 0
FullFoldHasNoOddCount = (m : ℕ) (rows fold : List ℕ) (k : ℕ) → length fold ≡ length rows → IsFull fold → k % 2 ≡ 0
    → slice_index (combined_pattern m fold (vectors_of 2 m rows)) k ≡ 0

-- there are no more combined words of a weight than the design has vectors of that weight which are constant
abbrev pub NoMoreCombinedWords : Type 0
NoMoreCombinedWords = (m : ℕ) (rows fold : List ℕ) (k : ℕ) → length fold ≡ length rows
    → combined_words m fold (vectors_of 2 m rows) k ≤ constant_words 2 m (vectors_of 2 m rows) k

-- the resolution of the combined plan is not lower than that of the design
abbrev pub NoLowerResolution : Type 0
NoLowerResolution = (m : ℕ) (rows fold : List ℕ) → length fold ≡ length rows
    → resolution_of (pattern_of (two_levels m (length rows)) rows)
    ≤ resolution_of (combined_pattern m fold (vectors_of 2 m rows))

-- the combined plan is the runs of a rule matrix of one run index more
abbrev pub CombinedPlanIsOfRules : Type 0
CombinedPlanIsOfRules = (m : ℕ) (rows fold : List ℕ) → length fold ≡ length rows
    → combined_plan fold (runs_at m rows) ≡ runs_at (m + 1) (combined_rows fold rows)

-- and its pattern is that of this matrix
abbrev pub CombinedPatternIsOfRules : Type 0
CombinedPatternIsOfRules = (m : ℕ) (rows fold : List ℕ) → length fold ≡ length rows
    → combined_pattern m fold (vectors_of 2 m rows)
    ≡ pattern_of (two_levels (m + 1) (length rows)) (combined_rows fold rows)

-- Designs with a base, a subspace of dimension h of the vectors over the run indexes. The q^m runs fall into q^h
-- groups, blocks or whole plots, in each of which every vector of the base is constant. Each factor has a row, a vector
-- over the run indexes. It is inside where its row is in the base, so that it is constant in each group, and otherwise
-- outside. Designs in blocks have no inside factor; in split plots the inside factors span the base; ordinary designs
-- have the base zero, and one group.
use Rattle.std.specs.Prelude.{ℕ, ◌≡◌, ◌==◌, ◌+◌, ◌^◌, ◌&&◌, ◌||◌, not, Bool, true, false, if◌then◌else◌, List, ◌++◌}
use Rattle.std.specs.Prelude.{map, length, take, drop, count_by, All, nat_lt}
use Rattle.fx_designs.specs.Vectors.{IsVector, is_zero, weight, minus}
use Rattle.fx_designs.specs.Runs.{points, runs_of, is_constant, is_constant_in_blocks}
use Rattle.fx_designs.specs.Spans.{rank_of}
use Rattle.fx_designs.specs.Patterns.{constant_words, is_less}

-- q levels; q^m runs in q^h groups; w inside factors, or 0 for a design in blocks; n outside factors
pub record Strata : Type 0 where
  pub q : ℕ
  pub m : ℕ
  pub h : ℕ
  pub w : ℕ
  pub n : ℕ

-- rows that span the base: those of the inside factors, which come first, or where there are none of the block factors
abbrev pub base_of : Strata → List (List ℕ) → List (List ℕ) → List (List ℕ)
base_of x blocks factors = (if x.w == 0 then blocks else take x.w factors)

-- whether a word is constant in each group
abbrev pub is_constant_in_groups : Strata → List (List ℕ) → List (List ℕ) → List ℕ → Bool
is_constant_in_groups x base factors u =
    is_constant_in_blocks x.q (length factors) (x.q ^ length base) u (runs_of x.q x.m (factors ++ base))

-- whether a word is confounded, with blocks or whole plots: it is constant in each group and not over all runs. Words
-- of inside factors alone are not counted.
abbrev pub is_confounded : Strata → List (List ℕ) → List (List ℕ) → List ℕ → Bool
is_confounded x base factors u =
    not (is_zero (drop x.w u))
    && (is_constant_in_groups x base factors u && not (is_constant x.q u (runs_of x.q x.m factors)))

-- how many words of k factors are constant over the runs (false), or confounded (true). A word and its multiples count
-- each, so that these are q - 1 times A_k and B_k (with blocks A_{k,0} and A_{k,1} of Sun, Wu and Chen 1997).
abbrev pub words_of : Strata → List (List ℕ) → List (List ℕ) → Bool → ℕ → ℕ
words_of x base factors false k = constant_words x.q x.m factors k
words_of x base factors true k =
    count_by (λ u. is_confounded x base factors u && (weight u == k)) (points x.q (length factors))

-- whether words of so many factors are main effects or interactions of two factors
abbrev pub is_effect : ℕ → Bool
is_effect k = (k == 1) || (k == 2)

-- how many words of one factor or two have the levels of a word in all runs, but for one value; it is one of them
-- where it is itself of one factor or two
abbrev pub effects_of : Strata → List (List ℕ) → List ℕ → ℕ
effects_of x factors u =
    count_by (λ v. is_constant x.q (minus x.q u v) (runs_of x.q x.m factors) && is_effect (weight v))
    (points x.q (length factors))

-- whether a word of two factors is not clear (Wu and Chen 1992): it is constant in each group, or a main effect, or
-- another word of two factors, has its levels
abbrev pub is_unclear : Strata → List (List ℕ) → List (List ℕ) → List ℕ → Bool
is_unclear x base factors u = is_constant_in_groups x base factors u || nat_lt 1 (effects_of x factors u)

-- how many words of two factors are not clear, and how many are. A word and its multiples count each, so that these are
-- q - 1 times the components of interactions of two factors.
abbrev pub unclear_of : Strata → List (List ℕ) → List (List ℕ) → ℕ
unclear_of x base factors =
    count_by (λ u. is_unclear x base factors u && (weight u == 2)) (points x.q (length factors))

abbrev pub clear_of : Strata → List (List ℕ) → List (List ℕ) → ℕ
clear_of x base factors =
    count_by (λ u. not (is_unclear x base factors u) && (weight u == 2)) (points x.q (length factors))

-- what designs are compared by
pub record Figures : Type 0 where
  pub words : Bool → ℕ → ℕ
  pub unclear : ℕ

abbrev pub figures_of : Strata → List (List ℕ) → List (List ℕ) → Figures
figures_of x base factors = record { words = words_of x base factors; unclear = unclear_of x base factors }

-- an entry of an order: the words of a weight, the constant ones or the confounded ones; or the words of two factors
-- that are not clear, so that designs with more clear ones come first
pub data Part : Type 0 where
  Words : Bool → ℕ → Part
  Unclear : Part

-- an order of designs: its first entry is compared first
abbrev pub Order : Type 0
Order = List Part

-- what an entry counts
abbrev pub part_of : Figures → Part → ℕ
part_of figures (Words confounded k) = figures.words confounded k
part_of figures Unclear = figures.unclear

-- the key of these figures in an order
abbrev pub key_of : Order → Figures → List ℕ
key_of order figures = map (part_of figures) order

-- a design of these dimensions, with its block factors: the base has the dimension h, no factor is constant, no two
-- have the same levels, and no outside factor is constant in each group (split plots: Bingham and Sitter 1999, 2001)
pub record IsStratified (x : Strata) (blocks factors : List (List ℕ)) : Type 0 where
  pub factor_count : length factors ≡ x.w + x.n
  pub block_rows : All (λ r. IsVector x.q x.m r) blocks
  pub factor_rows : All (λ r. IsVector x.q x.m r) factors
  pub base : rank_of x.q x.m (base_of x blocks factors) ≡ x.h
  pub none_of_one : words_of x (base_of x blocks factors) factors false 1 ≡ 0
  pub none_of_two : words_of x (base_of x blocks factors) factors false 2 ≡ 0
  pub none_confounded : words_of x (base_of x blocks factors) factors true 1 ≡ 0

-- the key of a design
abbrev pub key_of_design : Strata → Order → List (List ℕ) → List (List ℕ) → List ℕ
key_of_design x order blocks factors = key_of order (figures_of x (base_of x blocks factors) factors)

-- no design has a key that is less
abbrev pub NoneLess : Strata → Order → List ℕ → Type 0
NoneLess x order key = (blocks factors : List (List ℕ))
    → IsStratified x blocks factors
    → is_less (key_of_design x order blocks factors) key ≡ false

-- a design of least key
pub record IsLeast (x : Strata) (order : Order) (blocks factors : List (List ℕ)) : Type 0 where
  pub design : IsStratified x blocks factors
  pub least : NoneLess x order (key_of_design x order blocks factors)

-- The words of a design by their sums: a word is constant where its sum is zero, and constant in each group, block or
-- whole plot, where its sum is in the base.
use Rattle.std.specs.Prelude.{ℕ, ◌==◌, ◌-◌, ◌&&◌, ◌||◌, not, nat_lt, Bool, true, false, List, take, length, count_by}
use Rattle.fx_designs.specs.Galois.{number}
use Rattle.fx_designs.specs.Vectors.{is_zero, weight, combination}
use Rattle.fx_designs.specs.Runs.{points}
use Rattle.fx_designs.specs.Spans.{in_span}
use Rattle.fx_strata.specs.Designs.{Strata, is_effect}
use Rattle.fx_strata.specs.Words.{words_in}

-- whether a sum is in the base, and not zero
abbrev pub is_in_base : Strata → List (List ℕ) → List ℕ → Bool
is_in_base x base v = not (is_zero v) && in_span x.q x.m base v

-- as many words of weight k are constant; or confounded, those of inside factors alone left out
abbrev pub sums_of : Strata → List (List ℕ) → List (List ℕ) → Bool → ℕ → ℕ
sums_of x base factors false k = words_in x.q x.m is_zero factors k
sums_of x base factors true k =
    words_in x.q x.m (is_in_base x base) factors k - words_in x.q x.m (is_in_base x base) (take x.w factors) k

-- how many words of one factor or two have this sum
unfoldable pub effects_at : ℕ → ℕ → List (List ℕ) → List ℕ → ℕ
effects_at q m factors v =
    count_by (λ u. (number q (combination q m u factors) == number q v) && is_effect (weight u))
    (points q (length factors))

-- whether a word of two factors with this sum is not clear: the sum is in the base, or that of another word of one
-- factor or two
abbrev pub is_unclear_sum : Strata → List (List ℕ) → List (List ℕ) → List ℕ → Bool
is_unclear_sum x base factors v = in_span x.q x.m base v || nat_lt 1 (effects_at x.q x.m factors v)

-- as many words of two factors are not clear
abbrev pub unclear_sums : Strata → List (List ℕ) → List (List ℕ) → ℕ
unclear_sums x base factors = words_in x.q x.m (is_unclear_sum x base factors) factors 2

-- What it is that runs meet a requirement, and the vectors that the requirement forbids.
use Rattle.std.specs.Prelude.{ℕ, ◌==◌, ◌+◌, ◌-◌, ◌/◌, ◌^◌, ◌&&◌, ◌||◌, not, nat_lt, nat_le, Bool, if◌then◌else◌, List}
use Rattle.std.specs.Prelude.{◌++◌, map, length, take, drop}
use Rattle.std.specs.List.{list_all, list_any}
use Rattle.fx_designs.specs.Galois.{number}
use Rattle.fx_designs.specs.Vectors.{weight, is_zero, same, minus, zeros, vectors_of}
use Rattle.fx_designs.specs.Runs.{points, runs_of, is_constant, is_balanced, are_blocks_even, is_balanced_in_blocks}
use Rattle.fx_designs.specs.Problems.{Dimensions, Requirement, AtResolution, ForEffects}

-- the runs of rows that are given by their numbers
abbrev pub runs : Dimensions → List ℕ → List (List ℕ)
runs d rows = runs_of d.q d.m (vectors_of d.q d.m rows)

-- the effect whose factors are those where u is not zero
abbrev pub effect_of : List ℕ → ℕ
effect_of u = number 2 (map (λ a. if a == 0 then 0 else 1) u)

-- whether u is a vector of one of the effects: not zero on just the factors of it
abbrev pub is_of : List ℕ → List ℕ → Bool
is_of effects u = not (is_zero u) && list_any (λ e. e == effect_of u) effects

-- whether u, a vector of an effect to be estimated, has to be told from v: another vector of such an effect, the same
-- effect included, one of an effect that is not negligible, or the zero vector, which stands for the mean
abbrev pub is_told_from : List ℕ → List ℕ → List ℕ → List ℕ → Bool
is_told_from estimate nonnegligible u v =
    is_of estimate u && ((is_of estimate v || (is_of nonnegligible v || is_zero v)) && not (same u v))

-- whether f, a vector over the factors, has to be balanced: it is of weight 1 to r-1, or a difference of vectors to be
-- told apart
unfoldable pub must_balance : Dimensions → Requirement → List ℕ → Bool
must_balance d (AtResolution r) f = nat_lt 0 (weight f) && nat_lt (weight f) r
must_balance d (ForEffects estimate nonnegligible) f =
    list_any (λ u. list_any (λ v.
    is_told_from estimate nonnegligible u v && same f (minus d.q u v))
    (points d.q d.s)) (points d.q d.s)

-- whether u is a vector of an effect to be estimated: under a resolution r, of one with at most (r-1)/2 factors,
-- rounded down
unfoldable pub is_estimated : Requirement → List ℕ → Bool
is_estimated (AtResolution r) u = nat_lt 0 (weight u) && nat_le (weight u) ((r - 1) / 2)
is_estimated (ForEffects estimate nonnegligible) u = is_of estimate u

-- whether runs, each of s levels and t block values, meet the requirement
abbrev pub do_runs_meet : Dimensions → Requirement → List (List ℕ) → Bool
do_runs_meet d wanted xs =
    list_all (λ f. not (must_balance d wanted f) || is_balanced d.q f xs) (points d.q d.s)
    && ((d.t == 0)
    || (are_blocks_even d.q d.s (d.q ^ d.t) xs
    && list_all (λ u. not (is_estimated wanted u) || is_balanced_in_blocks d.q d.s (d.q ^ d.t) u xs) (points d.q d.s)))

-- whether the rows of a whole matrix meet it: whether their runs do
unfoldable pub is_met : Dimensions → Requirement → List ℕ → Bool
is_met d wanted rows = do_runs_meet d wanted (runs d rows)

-- whether the vector (f, b) over the factors and the block factors is forbidden
abbrev pub is_forbidden : Dimensions → Requirement → List ℕ → List ℕ → Bool
is_forbidden d wanted f b = (if is_zero b then must_balance d wanted f else is_zero f || is_estimated wanted f)

-- a vector over some first rows, with zeros for the rows to come
abbrev pub padded : Dimensions → List ℕ → List ℕ
padded d u = u ++ zeros (d.s + d.t - length u)

-- whether the word w over all rows is forbidden
abbrev pub is_forbidden_word : Dimensions → Requirement → List ℕ → Bool
is_forbidden_word d wanted w = is_forbidden d wanted (take d.s w) (drop d.s w)

-- whether no forbidden vector that is zero past the rows of a prefix is constant over the runs of these rows
unfoldable pub is_allowed : Dimensions → Requirement → List ℕ → Bool
is_allowed d wanted rows =
    list_all (λ u. not (is_forbidden_word d wanted (padded d u) && is_constant d.q u (runs d rows)))
    (points d.q (length rows))

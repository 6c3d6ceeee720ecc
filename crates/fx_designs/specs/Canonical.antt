-- Canonical prefixes: the lists of rows that are tried. A rule matrix that meets a requirement can be brought to one by
-- a change of the run indexes, by multiples of rows, under a resolution by the order of the factors, and by raising a
-- rank that is low. A row is named by its number.
use Rattle.std.specs.Prelude.{ℕ, ◌==◌, ◌+◌, ◌-◌, ◌^◌, ◌&&◌, ◌||◌, not, nat_lt, nat_le, Bool, true, if◌then◌else◌, List}
use Rattle.std.specs.Prelude.{length, take, min, slice_index}
use Rattle.std.specs.List.{list_all, list_any, range_with_len}
use Rattle.fx_designs.specs.Galois.{digits}
use Rattle.fx_designs.specs.Vectors.{is_normal, vectors_of}
use Rattle.fx_designs.specs.Spans.{in_span, rank_of}
use Rattle.fx_designs.specs.Problems.{Dimensions, Requirement, AtResolution, ForEffects}

-- the rank of the first k rows
abbrev pub rank_at : Dimensions → List ℕ → ℕ → ℕ
rank_at d rows k = rank_of d.q d.m (vectors_of d.q d.m (take k rows))

-- row k, counted from 0, is the next unit vector where it is outside the span of the rows before it, and else zero or
-- normal
abbrev pub follows_at : Dimensions → List ℕ → ℕ → Bool
follows_at d rows k =
    let r = slice_index rows k in
    (if in_span d.q d.m (vectors_of d.q d.m (take k rows)) (digits d.q d.m r)
    then (r == 0) || is_normal (digits d.q d.m r)
    else r == d.q ^ rank_at d rows k)

-- with the factor rows after the first k, the rank can still become the lesser of s and m
abbrev pub reaches_at : Dimensions → List ℕ → ℕ → Bool
reaches_at d rows k = nat_le (min d.s d.m) (rank_at d rows k + (d.s - k))

-- whether the row of this number is a unit vector
abbrev pub is_unit : Dimensions → ℕ → Bool
is_unit d r = list_any (λ i. r == d.q ^ i) (range_with_len 0 d.m)

-- row k is the unit vector in its place, or a later row: not zero, no unit vector, and of less number than the row just
-- before it, where that too is a later row
abbrev pub falls_at : Dimensions → List ℕ → ℕ → Bool
falls_at d rows k =
    let r = slice_index rows k in
    let units = min d.s d.m in
    (if nat_lt k units
    then r == d.q ^ k
    else nat_lt 0 r && (not (is_unit d r) && ((k == units) || nat_lt r (slice_index rows (k - 1)))))

-- under a resolution the factor rows begin with the unit vectors in order, and then fall
abbrev pub is_falling : Dimensions → Requirement → List ℕ → Bool
is_falling d (AtResolution r) rows = list_all (λ k. falls_at d rows k) (range_with_len 0 (min d.s (length rows)))
is_falling d (ForEffects estimate nonnegligible) rows = true

-- whether a list of rows is a canonical prefix: at most s + t rows, each below q^m
unfoldable pub is_canonical : Dimensions → Requirement → List ℕ → Bool
is_canonical d wanted rows =
    nat_le (length rows) (d.s + d.t)
    && (list_all (λ r. nat_lt r (d.q ^ d.m)) rows
    && (list_all (λ k. follows_at d rows k) (range_with_len 0 (length rows))
    && (list_all (λ k. reaches_at d rows k) (range_with_len 0 (min d.s (length rows) + 1))
    && is_falling d wanted rows)))

-- Floors of keys: at least so much each entry of the key counts for each design below a prefix.
use Rattle.std.specs.Prelude.{ℕ, zero, suc, ◌==◌, ◌+◌, ◌-◌, ◌*◌, ◌&&◌, not, nat_lt, nat_le, min, max, Bool, false, List}
use Rattle.std.specs.Prelude.{[], ◌∷◌, ◌++◌, map}
use Rattle.std.specs.Prelude.{count_by, length, if◌then◌else◌, Option, Some, None}
use Rattle.fx_designs.specs.Galois.{digits}
use Rattle.fx_designs.specs.Patterns.{is_less}
use Rattle.fx_strata.specs.Designs.{Strata, Part, Words, Unclear, Order, key_of}
use Rattle.fx_strata.specs.Canonical.{words, unclear, figures}
use Rattle.fx_strata.specs.Clear.{is_live, live_sums, pairs}
use Rattle.fx_strata.specs.Stages.{has_units, later_rows, missing}

-- the least sum of k of the numbers, or of all where there are fewer
abbrev pub least_sum : ℕ → List ℕ → ℕ
least_sum zero counts = 0
least_sum (suc k) [] = 0
least_sum (suc k) (x ∷ counts) =
    (if nat_le (length counts) k then x + least_sum k counts else min (x + least_sum k counts)
    (least_sum (suc k) counts))

-- the words that a further row makes with rows of the prefix alone
abbrev pub new_words : Strata → List ℕ → ℕ → Bool → ℕ → ℕ
new_words x rows r confounded k = words x (rows ++ r ∷ []) confounded k - words x rows confounded k

-- whether a row may come without taking away live sums: it is dead itself, and where no word of three factors may be
-- constant it makes none
abbrev pub is_spare : Strata → Bool → List ℕ → ℕ → Bool
is_spare x none rows r =
    not (is_live x rows (digits x.q x.m r)) && not (none && nat_lt 0 (new_words x rows r false 3))

-- so many of the missing rows do take away their own sums: of those of its stage; or, where inside factors are missing,
-- all of the outside factors, since then all sums that are not in the base are live
abbrev pub taking : Strata → Bool → List ℕ → ℕ
taking x none rows =
    (if nat_lt (length rows) x.w
    then x.n
    else missing x rows - count_by (is_spare x none rows) (later_rows x rows))

-- at least so many words of two factors are not clear in each design below the prefix: those that are not now; and all
-- of the design but for one to each live sum that is left
abbrev pub unclear_floor : Strata → Bool → List ℕ → ℕ
unclear_floor x none rows =
    max (unclear x rows) (pairs x.q (x.w + x.n) + (x.q - 1) * taking x none rows - live_sums x rows)

-- whether a design with a less key has no constant words of three factors: these come first, and the key has none
abbrev pub needs_none : Order → List ℕ → Bool
needs_none [] key = false
needs_none (Unclear ∷ order) key = false
needs_none (Words confounded k ∷ order) [] = false
needs_none (Words confounded k ∷ order) (count ∷ key) = not confounded && ((k == 3) && (count == 0))

-- at least so much an entry counts below the prefix: the words that it has, and the least that the missing rows of its
-- stage add; or the words of two factors that are not clear
abbrev pub floor_at : Strata → Bool → List ℕ → Part → ℕ
floor_at x none rows (Words confounded k) =
    words x rows confounded k
    + least_sum (missing x rows) (map (λ r. new_words x rows r confounded k) (later_rows x rows))
floor_at x none rows Unclear = unclear_floor x none rows

abbrev pub floor : Strata → Order → Bool → List ℕ → List ℕ
floor x order none rows = map (floor_at x none rows) order

-- whether the key of the prefix is not less than what is to be beaten
abbrev pub does_not_beat : Strata → Order → Option (List ℕ) → List ℕ → Bool
does_not_beat x order None rows = false
does_not_beat x order (Some key) rows = not (is_less (key_of order (figures x rows)) key)

-- whether its floor, where the unit vectors of its stage are there, is not
abbrev pub cannot_beat : Strata → Order → Option (List ℕ) → List ℕ → Bool
cannot_beat x order None rows = false
cannot_beat x order (Some key) rows =
    has_units x rows && not (is_less (floor x order (needs_none order key) rows) key)

-- Images of prefixes of canonical designs: a change of the run indexes that keeps the base takes each design below a
-- prefix to one with as many words of each kind. Rows are put in canonical order stage by stage.
use Rattle.std.specs.Prelude.{ℕ, ◌==◌, ◌-◌, ◌^◌, ◌&&◌, not, nat_le, Bool, if◌then◌else◌, List, [], ◌++◌, map, filter}
use Rattle.std.specs.Prelude.{length, take, drop}
use Rattle.std.specs.List.{list_all, list_any, range_with_len}
use Rattle.fx_designs.specs.Problems.{Dimensions}
use Rattle.fx_designs.specs.Canonical.{is_unit}
use Rattle.fx_designs.specs.Patterns.{is_less}
use Rattle.fx_designs.specs.Answers.{falling}
use Rattle.fx_strata.specs.Changes.{falling_order, moved}
use Rattle.fx_strata.specs.Designs.{Strata}
use Rattle.fx_strata.specs.Canonical.{units, dimensions_of}

-- the unit vectors of a stage, and then in falling order the rows that are none
abbrev pub in_order : Dimensions → ℕ → ℕ → List ℕ → List ℕ
in_order d from len rows = units d.q from len ++ falling_order (filter (λ r. not (is_unit d r)) rows)

-- the rows of the inside factors in order, if there are such factors
abbrev pub first_in_order : Strata → List ℕ → List ℕ
first_in_order x rows = (if x.w == 0 then [] else in_order (dimensions_of x) 0 x.h rows)

-- the rows of the outside factors in order
abbrev pub second_in_order : Strata → List ℕ → List ℕ
second_in_order x rows = in_order (dimensions_of x) x.h (x.m - x.h) rows

-- what a change makes of each of some rows
abbrev pub moved_rows : Strata → List ℕ → List ℕ → List ℕ
moved_rows x change rows = map (moved (dimensions_of x) change) rows

-- the image of a prefix
abbrev pub image : Strata → List ℕ → List ℕ → List ℕ
image x change rows =
    first_in_order x (moved_rows x change (take x.w rows))
    ++ (if nat_le (length rows) x.w then [] else second_in_order x (moved_rows x change (drop x.w rows)))

-- rows of the base that each design below a prefix has; with blocks these are all
abbrev pub first_known : Strata → List ℕ → List ℕ
first_known x rows = (if x.w == 0 then falling (x.q ^ x.h) else units x.q 0 x.h ++ take x.w rows)

-- rows of outside factors that each design below it has
abbrev pub second_known : Strata → List ℕ → List ℕ
second_known x rows = units x.q x.h (x.m - x.h) ++ drop x.w rows

-- whether a change moves some of the rows to each of these unit vectors
abbrev pub brings : Strata → List ℕ → ℕ → ℕ → List ℕ → Bool
brings x change from len rows =
    list_all (λ i. list_any (λ r. moved (dimensions_of x) change r == x.q ^ i) rows) (range_with_len from len)

-- whether a change exchanges the run indexes for rows of each design below, those of the base for rows of the base, so
-- that it keeps the base
abbrev pub is_exchange : Strata → List ℕ → List ℕ → Bool
is_exchange x change rows =
    brings x change 0 x.h (first_known x rows) && brings x change x.h (x.m - x.h) (second_known x rows)

-- whether such an exchange gives an image that precedes the prefix
abbrev pub has_earlier_image : Strata → List ℕ → List ℕ → Bool
has_earlier_image x change rows =
    (length change == x.m) && (is_exchange x change rows && is_less rows (image x change rows))
